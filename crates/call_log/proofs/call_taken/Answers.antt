-- `call_log::call_taken` meets its contract: each field that is taken goes on, and the first that is not stops the call. Assumes nothing.
use mathlib.Core.Path.{◌≡◌, sym, ap, ◌∙◌}
use Prim.Native.Nat.{ℕ, ◌-◌}
use native.Mathlib.Omega.{arith}
use lib.ListN.{get_or, drop, length-drop}
use Rattle.std.specs.Prelude.{Some, None}
use Rattle.call_log.specs.Log.{field_of, field_taken, fields, call_taken}
use Rattle.call_log.proofs.Fields.{at_hand, taken_within, field_stops, field_goes}
use Rattle.call_log.proofs.call_taken.Goals as goal

pub overflow_add-k : goal.overflow_add-k
overflow_add-k c = let l = c.loop-field in
    let b = c.args.b.now in
    let h = taken_within (drop l.k b) (field_of (get_or b 0 0) l.field-index) c.in_ok-k.field-0 (sym (at_hand b l.k l.field-index _ (omega (arith, c.fields_of-field-items.ensures.count)) c.field_taken.ensures c.rest.ensures c.fields_of-field-items.ensures.value c.byte_at.ensures) ∙ c.in_ok-k.was) in
    omega (arith, length-drop l.k b)

pub loop-field-preserved : goal.loop-field-preserved
loop-field-preserved c = let l = c.loop-field in
    let b = c.args.b.now in
    let kind = get_or b 0 0 in
    let found : field_taken (drop l.k b) (field_of kind l.field-index) ≡ Some c.in_ok-k.field-0 = sym (at_hand b l.k l.field-index _ (omega (arith, c.fields_of-field-items.ensures.count)) c.field_taken.ensures c.rest.ensures c.fields_of-field-items.ensures.value c.byte_at.ensures) ∙ c.in_ok-k.was in
    let h = taken_within (drop l.k b) (field_of kind l.field-index) c.in_ok-k.field-0 found in
    (omega (arith, length-drop l.k b), field_goes l.field-index kind b l.k (omega arith) c.in_ok-k.field-0 found ∙ l.invariant.1)

pub returns-in_err-k : goal.returns-in_err-k
unfolding call_taken
returns-in_err-k c = let l = c.loop-field in
    let b = c.args.b.now in
    let found : field_taken (drop l.k b) (field_of (get_or b 0 0) l.field-index) ≡ None = sym (at_hand b l.k l.field-index _ (omega (arith, c.fields_of-field-items.ensures.count)) c.field_taken.ensures c.rest.ensures c.fields_of-field-items.ensures.value c.byte_at.ensures) ∙ c.in_err-k.was in
    c.from_residual.ensures ∙ field_stops l.field-index (get_or b 0 0) b l.k (omega arith) found ∙ l.invariant.1

pub returns : goal.returns
unfolding call_taken fields
returns c = let l = c.loop-field in
    let b = c.args.b.now in
    let e : l.field-index ≡ 6 = omega arith in
    sym (ap (λ (j : ℕ). fields (6 - j) j (get_or b 0 0) b l.k) e) ∙ l.invariant.1

-- `listing::Lister::step` meets its contract, record by record. Assumes nothing.
use mathlib.Core.Path.{sym, ap, ◌∙◌}
use Prim.Native.Nat.{ℕ}
use native.Mathlib.Omega.{arith}
use Rattle.std.specs.Prelude.{Ok}
use lib.ListN.{take}
use lib.Seq.{length-take-le}
use Rattle.config.specs.Config.{nf}
use Rattle.frame_file.specs.File.{samples}
use Rattle.listing.specs.declared.line.Text.{Text}
use Rattle.listing.specs.declared.Lister.{Lister}
use Rattle.listing.specs.declared.Stepped.{Stepped}
use Rattle.listing.specs.Text.{refused_line}
use Rattle.listing.specs.Listing.{listened}
use Rattle.listing.specs.Steps.{text, framed, found, step}
use Rattle.listing.proofs.Found.{whole}
use Rattle.listing.proofs.Lister.step.Goals as goal

abbrev ended : Lister → Text → Stepped
ended l t = record { text = t; used = 0; lister = l }

pub slice_bounds-frame-end : goal.slice_bounds-frame-end
slice_bounds-frame-end c = let a = c.args in
    let u = c.in-Ok-Frame.used in
    let w = whole a.self.channel.config a.bytes.now u (sym c.read_record.ensures ∙ (c.in-Ok-Frame.is ∙ ap Ok c.in-Ok-Frame.field-0-is)) in
    sym (length-take-le u a.bytes.now (omega (arith, w.uses, w.room)))

pub frame-requires : goal.frame-requires
frame-requires c = let a = c.args in
    let u = c.in-Ok-Frame.used in
    let w = whole a.self.channel.config a.bytes.now u (sym c.read_record.ensures ∙ (c.in-Ok-Frame.is ∙ ap Ok c.in-Ok-Frame.field-0-is)) in
    (w.known, length-take-le u a.bytes.now (omega (arith, w.uses, w.room)) ∙ w.uses)

pub returns-in-Ok-Frame : goal.returns-in-Ok-Frame
unfolding step
returns-in-Ok-Frame c = let a = c.args in
    let u = c.in-Ok-Frame.used in
    let w = whole a.self.channel.config a.bytes.now u (sym c.read_record.ensures ∙ (c.in-Ok-Frame.is ∙ ap Ok c.in-Ok-Frame.field-0-is)) in
    c.frame.ensures
    ∙ ap (λ (n : ℕ). framed a.self n (listened a.self.channel (samples (nf a.self.channel.config) (take u a.bytes.now)))) (length-take-le u a.bytes.now (omega (arith, w.uses, w.room)))
    ∙ ap (found a.self a.bytes.now) (sym (c.in-Ok-Frame.is ∙ ap Ok c.in-Ok-Frame.field-0-is) ∙ c.read_record.ensures)

pub returns-in-Ok-End : goal.returns-in-Ok-End
unfolding step
returns-in-Ok-End c = let a = c.args in
    c.last.ensures ∙ ap (ended a.self) c.end_line.ensures ∙ ap (found a.self a.bytes.now) (sym (c.in-Ok-End.is ∙ ap Ok c.in-Ok-End.field-0-is) ∙ c.read_record.ensures)

pub returns-in-Err : goal.returns-in-Err
unfolding step
returns-in-Err c = let a = c.args in
    c.last-in-Err.ensures
    ∙ ap (ended a.self) (c.refused_line.ensures ∙ ap (λ (n : ℕ). text (refused_line n)) c.number.ensures)
    ∙ ap (found a.self a.bytes.now) (sym c.in-Err.is ∙ c.read_record.ensures)

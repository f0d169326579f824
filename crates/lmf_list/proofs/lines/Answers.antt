-- `lmf_list::lines` meets its contract. The invariant: what waits is a part of the slice, whose length stays, and the frames listed can be counted. Each round counts a
-- frame more or is the last. Assumes nothing.
use mathlib.Core.Path.{refl, sym, ap, ◌∙◌}
use mathlib.Core.Logic.{inl, inr}
use mathlib.Core.Bool.{true≢false}
use native.Mathlib.Omega.{arith}
use borrow.Author.Rules.{rules}
use Rattle.lmf_list.proofs.Stepping.{listed, opens, goes}
use Rattle.lmf_list.proofs.lines.Goals as goal
use Rattle.lmf_list.proofs.lines.Goals.{then-stepped-eq0-via-then-stepped-eq0, then-stepped-eq0-via-else-stepped-eq0+then-lister}

pub loop-step-init : goal.loop-step-init
loop-step-init c = let e = c.«open-step».ensures.0 in
    (refl, c.requires, omega arith, refl, omega (arith, ap listed e ∙ opens _))

pub loop-step-smaller : goal.loop-step-smaller
loop-step-smaller c = let l = c.loop-step in
    let n = c.next-step in
    (goes l.step.stepped n.result.stepped _ c.if-stepped-eq0.false c.if-lister.false l.invariant.4 n.ensures.stepped).less

pub loop-step-preserved : goal.loop-step-preserved
loop-step-preserved c = let l = c.loop-step in
    let n = c.next-step in
    (omega (arith, c.emit-output.auto.out, l.invariant.0), l.invariant.1, c.emit-output.ensures.within, search rules, (goes l.step.stepped n.result.stepped _ c.if-stepped-eq0.false c.if-lister.false l.invariant.4 n.ensures.stepped).fits)

pub returns-else-output : goal.returns-else-output
returns-else-output c = record { within = c.loop-step.invariant.2; last = λ p q. absurd (true≢false (sym q ∙ c.if-output.false)) }

pub returns-after-loop-step : goal.returns-after-loop-step
returns-after-loop-step c = record { within = c.loop-step.invariant.2; last = λ p q. absurd (true≢false (sym p ∙ c.loop-step-test.false)) }

pub returns-then-stepped-eq0 : goal.returns-then-stepped-eq0
returns-then-stepped-eq0 c = record {
  within = c.emit-output.ensures.within;
  last = λ p q. elim c.then-stepped-eq0.branch [
    | then-stepped-eq0-via-then-stepped-eq0 w ↦ inl w.if-stepped-eq0.true
    | then-stepped-eq0-via-else-stepped-eq0+then-lister w ↦ inr w.if-lister.true
  ];
}

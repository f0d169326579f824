-- One answer of the code has an outcome. Assumes nothing.
use mathlib.Core.Path.{◌≡◌, sym, ap}
use Rattle.std.specs.Prelude.{⊤, Result, Ok, Err}
use Rattle.refusals.specs.declared.Refusal.{Refusal}
use Rattle.refusals.proofs.Verdicts.{refused, told-injective}
use Rattle.loudest.specs.declared.Loudest.{Loudest}
use Rattle.loudest.specs.declared.Loudest.TheVariants.{Quiet}
use Rattle.loudest.specs.Loudest.{Heard, outcome}

abbrev lone : Result ⊤ Refusal → Result Loudest Refusal
lone (Ok a) = Ok Quiet
lone (Err r) = Err r

pub once : (r s : Result Loudest Refusal) → outcome r ≡ outcome s → r ≡ s
once (Ok a) (Ok b) e = ap (λ (x : Heard). Ok x.loudest) e
once (Ok a) (Err r) e = absurd (refused r (sym (ap (λ (x : Heard). x.number) e)))
once (Err r) (Ok b) e = absurd (refused r (ap (λ (x : Heard). x.number) e))
once (Err r) (Err s) e = ap lone (told-injective (Err r) (Err s) (ap (λ (x : Heard). record { number = x.number; index = x.index }) e))

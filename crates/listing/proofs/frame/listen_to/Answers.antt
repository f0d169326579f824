-- `listing::frame::listen_to` meets its contract: the samples decoded are those analysed. Assumes nothing.
use mathlib.Core.Path.{sym, ap, ◌∙◌}
use Prim.Native.Nat.{ℕ}
use native.Mathlib.Omega.{arith}
use lib.IntN.{pos}
use lib.ListN.{length, drop, replicate, length-append, length-replicate}
use lib.Seq.{length-take-le, take_at}
use Rattle.config.proofs.Sound.{sound}
use Rattle.frame_file.specs.File.{samples}
use Rattle.listing.specs.Listing.{listened}
use Rattle.listing.proofs.frame.listen_to.Goals as goal

pub slice_bounds-samples-end : goal.slice_bounds-samples-end
slice_bounds-samples-end c = let s = sound c.args.channel.config c.requires.0 in
    omega (arith, c.nf-n.ensures, s.nf_le, length-replicate 480 (pos 0))

pub slice_bounds-decode-end : goal.slice_bounds-decode-end
slice_bounds-decode-end c = let s = sound c.args.channel.config c.requires.0 in
    sym (length-take-le c.nf-n.result (replicate 480 (pos 0)) (omega (arith, c.nf-n.ensures, s.nf_le, length-replicate 480 (pos 0))))

pub decode-requires : goal.decode-requires
decode-requires c = let s = sound c.args.channel.config c.requires.0 in
    let e = length-take-le c.nf-n.result (replicate 480 (pos 0)) (omega (arith, c.nf-n.ensures, s.nf_le, length-replicate 480 (pos 0))) in
    omega (arith, e, c.nf-n.ensures, c.requires.1)

pub slice_bounds-samples-end-2 : goal.slice_bounds-samples-end-2
slice_bounds-samples-end-2 c = let s = sound c.args.channel.config c.requires.0 in
    let e = length-take-le c.nf-n.result (replicate 480 (pos 0)) (omega (arith, c.nf-n.ensures, s.nf_le, length-replicate 480 (pos 0))) in
    omega (arith, e, c.decode.auto.out, length-append c.decode.new.out (drop c.nf-n.result (replicate 480 (pos 0))))

pub slice_bounds-listen-end : goal.slice_bounds-listen-end
slice_bounds-listen-end c = let s = sound c.args.channel.config c.requires.0 in
    let e = length-take-le c.nf-n.result (replicate 480 (pos 0)) (omega (arith, c.nf-n.ensures, s.nf_le, length-replicate 480 (pos 0))) in
    let k = c.decode.auto.out ∙ e in
    sym (ap length (take_at c.decode.new.out (drop c.nf-n.result (replicate 480 (pos 0))) c.nf-n.result k) ∙ k)

pub returns : goal.returns
returns c = let a = c.args in
    let s = sound a.channel.config c.requires.0 in
    let n = c.nf-n.result in
    let e = length-take-le n (replicate 480 (pos 0)) (omega (arith, c.nf-n.ensures, s.nf_le, length-replicate 480 (pos 0))) in
    let d = c.decode.new.out in
    c.listen.ensures
    ∙ ap (listened a.channel)
    (take_at d (drop n (replicate 480 (pos 0))) n (c.decode.auto.out ∙ e)
    ∙ c.decode.ensures
    ∙ ap (λ (k : ℕ). samples k a.bytes.now) (e ∙ c.nf-n.ensures))

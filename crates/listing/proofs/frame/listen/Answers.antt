-- `listing::frame::listen` meets its contract: the rooms' parts are zeros, as many as the configuration has. Assumes nothing.
use mathlib.Core.Path.{refl}
use Prim.Native.Nat.{ℕ}
use Rattle.laws.specs.Numbers.{zero32}
use Rattle.config.proofs.Sound.{sound}
use Rattle.listing.proofs.Frames.{part-within, part_length, part_is}
use Rattle.listing.proofs.frame.listen.Goals as goal

pub slice_bounds-lines-end : goal.slice_bounds-lines-end
slice_bounds-lines-end c = part-within 480 zero32 refl c.nf-n.ensures (sound _ c.requires).nf_le

pub slice_bounds-listen_in-end : goal.slice_bounds-listen_in-end
slice_bounds-listen_in-end c = part_length 480 zero32 refl c.nf-n.ensures (sound _ c.requires).nf_le

pub slice_bounds-energies-end : goal.slice_bounds-energies-end
slice_bounds-energies-end c = part-within 64 zero32 refl c.nb-b.ensures (sound _ c.requires).nb_le

pub slice_bounds-listen_in-end-2 : goal.slice_bounds-listen_in-end-2
slice_bounds-listen_in-end-2 c = part_length 64 zero32 refl c.nb-b.ensures (sound _ c.requires).nb_le

pub slice_bounds-peaks-end : goal.slice_bounds-peaks-end
slice_bounds-peaks-end c = part-within {A = ℕ} 64 0 refl c.nb-b.ensures (sound _ c.requires).nb_le

pub slice_bounds-listen_in-end-3 : goal.slice_bounds-listen_in-end-3
slice_bounds-listen_in-end-3 c = part_length {A = ℕ} 64 0 refl c.nb-b.ensures (sound _ c.requires).nb_le

pub listen_in-requires : goal.listen_in-requires
listen_in-requires c = let s = sound _ c.requires in
    let b = c.nb-b.ensures in
    (part_is 480 zero32 refl c.nf-n.ensures s.nf_le, part_is 64 zero32 refl b s.nb_le, part_is {A = ℕ} 64 0 refl b s.nb_le)

pub returns : goal.returns
returns c = c.listen_in.ensures.0

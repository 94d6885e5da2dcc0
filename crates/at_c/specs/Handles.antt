-- What a handle owns.
use Rattle.at_c.specs.Prelude.{RattleType, Ptr, block_ptr, null_ptr, Fml, feq, fex, fsep, Global, ghosts, box_owns}
use Rattle.std.specs.Prelude.{None, Option, Some}

-- at null nothing is held. Any other pointer is that of a box of what is held
abbrev pub owns_held : (R : RattleType) → Global → Ptr → Option R.Denot → Fml
owns_held R alloc null_ptr held = feq (Option R.Denot) held None
owns_held R alloc (block_ptr b o) held =
    fex R.Denot (λ x. fsep (feq (Option R.Denot) held (Some x)) (box_owns (ghosts.dealloc_token alloc) R (block_ptr b o) x))

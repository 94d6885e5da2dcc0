-- What the walks of this crate cite.
pub use Rattle.std.proofs.Common.{◌≡◌, List, [], ◌∷◌, ◌++◌, refl, sym, ap, ◌∙◌, subst, lit<}
pub use mir.Val.{Val, vptr, vcons, vnil}
pub use mir.MapTy.{inst_fn}
pub use base.Logic.{SProp, ent, emp, id⊢}
pub use base.Fml.{ftrue}
pub use prog.Wp.{WpFn}
pub use types.Kit.{‵, raw, ◌⊛◌, some, later, at_ret, ◌$◌, ◌∵◌, !, qed, by, move, keep, drop, split, join, fsplit, fjoin, fpick, pick, suffices, use0, use1, await, feq_l, rewrite}
pub use types.Run.{stop, fld, lit, of_opd, bin, no_more, and_then, first, branches, exec, returns, enter}
pub use types.ByLocal.{alloc_all, pass_all, free_all, look_at, get, get_in, sets, sets_last, env}
pub use types.Part.{agg, sub, whole}
pub use types.Match.{live}
pub use contract.Monad.{fact, fact_i}
pub use contract.Running.{tables}
pub use denote.Exit.{no, yes}
pub use denote.RattleType.{RattleType, owns}
pub use denote.Signature.{types_at, type_at, plain}
pub use denote.RawPtr.{Ptr, block_ptr, null_ptr, ptr_val, tests_null}
pub use denote.Steps.{nothing, only, heard}
pub use denote.Param.{param, layout}
pub use denote.Triple.Walked.{Stays, stay_dropped, walk_of, Goes-dropped}
pub use Rattle.std.specs.declared.option.Option.TheVariants.{None, Some}
pub use Rattle.core.proofs.alloc.Shapes.{after}
pub use Rattle.core.proofs.cell.Inside.{Good}
pub use Rattle.core.proofs.option.Made.{Some-of, none_of}
pub use Rattle.std.specs.contracts.impls.GlobalAllocator.TheImpl.{ghosts}
pub use Rattle.std_alloc.proofs.ResultValues.{and_tt}
pub use Rattle.std.proofs.raw_atomic.Walks.{proved_at, leaves}

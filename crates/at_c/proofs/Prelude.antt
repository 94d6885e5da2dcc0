-- What this crate's proofs name of other crates and of its definitions, in one place.
pub use Rattle.std.proofs.Crossing.{crosses, frees}
pub use Rattle.std.proofs.GlobalToken.{dealloc_token-Testable}
pub use Rattle.std.proofs.Math.ListN.{get_or-append}
pub use Rattle.std.proofs.Math.Seq.{get_or-append_right, get_or-append_seam}
pub use Rattle.std.proofs.lemmas.Bool.{cases_lt}
pub use Rattle.std.proofs.lemmas.List.{get_or-map, get_or-replicate, length-map, length-replicate, map-append}
pub use Rattle.std.proofs.lemmas.List.Elements.{All-append, All-cons, All-from_get_or, All-head, All-nil, All-push, All-replicate, All-tail}
pub use Rattle.std.proofs.raw_atomic.Walks.{leaves, proved_at}
pub use Rattle.std.specs.Arc.{arc_value}
pub use Rattle.std.specs.Vec.{vec_capacity}
pub use Rattle.std.specs.contracts.impls.GlobalAllocator.TheImpl.{ghosts}
pub use Rattle.std.specs.declared.option.Option.{Option}
pub use Rattle.std.specs.declared.option.Option.TheVariants.{None, Some}
pub use Rattle.std_alloc.proofs.BoxSteps.Steps.{box_in, box_out}
pub use Rattle.std_alloc.proofs.ResultValues.{and_tt}
pub use Rattle.std_alloc.proofs.SendSync.{lies, quiet}
pub use Rattle.std_alloc.proofs.boxed.Box.from_raw.Met.{met}
pub use Rattle.std_alloc.specs.Box.Ownership.{box_owns}
pub use base.Fml.{Fml, feq, flft, fsep, ftrue}
pub use base.Fraction.{full_share}
pub use base.Logic.{SProp, emp, ent, fst∗, guard_i, id⊢, never, snd∗, via}
pub use base.Shift.{Keyless}
pub use contract.Monad.{fact, fact_i, fact_use}
pub use contract.Running.{tables}
pub use denote.Builtin.{RawPtr}
pub use denote.Exit.{no}
pub use denote.Memory.{lone}
pub use denote.Param.{bounded, layout, param}
pub use denote.Param.Laws.{Laws, param_laws}
pub use denote.Param.Send.{AllSend, IsSend, IsSync, owning_send, part_keyless, sendable, struct_send, view_send, view_sync}
pub use denote.Param.SendFields.{declared_send, declared_sync, variants_send}
pub use denote.RattleType.{RattleType, Valss, owns}
pub use denote.RawPtr.{Ptr, Testable, block_ptr, in_a_block, lies_at, null_ptr, ptr_val}
pub use denote.Signature.{plain, types_at}
pub use denote.Steps.{heard, nothing, only}
pub use denote.Struct.Owning.{fields, shape, to}
pub use denote.Struct.Struct.{Struct, exits_of, within}
pub use denote.Struct.Tuple.{Tuple}
pub use denote.Triple.Call.{calls_at, calls_at_last}
pub use denote.Triple.Clauses.{Lasts, lasts}
pub use denote.Triple.Spec.{triple_of}
pub use denote.Triple.Walked.{Stays, stay_dropped, walk_of}
pub use lib.Dec.{T, lit<}
pub use mathlib.Core.Bool.{Bool, false, true}
pub use mir.MapTy.{inst_fn}
pub use mir.Syntax.{a_type, dcons, dnil, impl, tnil, ty_ptr}
pub use mir.Val.{Val, WT, has_ty, of_list, vcons, vnil, vptr, vstruct}
pub use prog.Wp.{WpFn}
pub use seplogic.Ra.Ura.{Ura}
pub use types.ByLocal.{alloc_all, env, free_all, get, get_in, lands_as, lands_last, look_at, pass_all, sets}
pub use types.Kit.{ !, Goal, Item, Seq, Step, at_ret, await, by, drop, feq_i, feq_l, fjoin, fpack, fpick, fsplit, given, join, keep, later, learn, move, pick, qed, raw, rewrite, some, split, split3, step, suffices, use0, use1, ‵}
pub use types.Logic.{Logic, sem}
pub use types.Part.{agg, sub, whole}
pub use types.Run.{and_then, blocks, enter, exec, first, fld, no_more, of_opd, returns, stop}
pub use Rattle.at_board.proofs.Sharing.{board_seat_sync, table_seat_send}
pub use Rattle.at_board.specs.Knowledge.Seats.{BoardTerms}
pub use Rattle.at_c.specs.Callers.{IsCaller, OwnCallerTerms}
pub use Rattle.at_c.specs.Exports.{CallerAnswers, HandleAnswers, IsPayOut, pairs_of}
pub use Rattle.at_c.specs.Handles.{owns_held}
pub use Rattle.at_c.specs.Ledgers.{IsOpened, IsStillOpen, OpenedTerms}
pub use Rattle.at_c.specs.Near.{near_account, near_pairs_of}
pub use Rattle.at_c.specs.Notes.{LearnsNote}
pub use Rattle.at_c.specs.Shared.{AreOwned, IsOwned, SharedTerms}
pub use Rattle.at_c.specs.contracts.handle.Handle.{the_row}
pub use Rattle.at_c.specs.contracts.handle.Handle.closed.{clauses, ended}
pub use Rattle.at_c.specs.declared.given.Owner.{Owner}
pub use Rattle.at_c.specs.declared.held.Held.{Held}
pub use Rattle.at_c.specs.declared.outcome.Answer.{Answer}
pub use Rattle.at_c.specs.declared.outcome.Outcome.{Outcome}
pub use Rattle.at_c.specs.declared.target.Target.{Target}
pub use Rattle.at_journal.specs.Calls.{calls_in}
pub use Rattle.at_ledger.specs.Book.{BookTerms}
pub use Rattle.at_ledger.specs.Call.{AreTargetsOn, IsCallOn, IsLineOn, TargetPair, target_at}
pub use Rattle.at_ledger.specs.Files.{contents_of}
pub use Rattle.at_ledger.specs.Run.{Whole, lines_of}
pub use Rattle.at_ledger.specs.declared.call.Call.{Call}
pub use Rattle.at_ledger.specs.declared.call.Line.{Line}
pub use Rattle.at_log.proofs.Sharing.{receipt_send}
pub use Rattle.at_log.specs.ClosingTerms.{ClosingTerms}
pub use Rattle.at_log.specs.Coherent.{Coherent}
pub use Rattle.at_log.specs.Receipts.{calls_of}
pub use Rattle.at_log.specs.declared.receipt.Receipt.{Receipt}
pub use Rattle.at_object.proofs.Laws.Calls.{past_receipts-more, stands-CallMade}
pub use Rattle.at_object.proofs.Sharing.{pass_send}
pub use Rattle.at_object.specs.Calls.{CallMade}
pub use Rattle.at_object.specs.Closings.{AreAccountedFor, IsAccountedFor}
pub use Rattle.at_object.specs.Looks.{HasSeenBalances}
pub use Rattle.at_object.specs.Passes.{AreNewPasses, IsNewPass, IsPassOf, PassTerms, Stands, past_call}
pub use Rattle.at_object.specs.PastCalls.{PastCall}
pub use Rattle.atomic_table.proofs.Rights.{right_send}
pub use Rattle.atomic_table.proofs.Sent.{owns_keyless, shares_keyless}
pub use Rattle.atomic_table.specs.declared.shared.TableRule.{Ghosts}
pub use Rattle.core.proofs.alloc.Calls.{Al, Goes-blank, handle_tells}
pub use Rattle.core.proofs.alloc.Shapes.{after}
pub use Rattle.core.proofs.atomic.Sent.{chain-Keyless}
pub use Rattle.core.proofs.atomic.Steps.{Ptr-Good, fm}
pub use Rattle.core.proofs.cell.Inside.{Good}
pub use Rattle.counted_slot.specs.Counting.{Id, Phase, away, free, offset, state}

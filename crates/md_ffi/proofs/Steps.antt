-- The names of the logic that the walks of this crate cite.
pub use Rattle.std.proofs.Common.{◌≡◌, List, [], ◌∷◌, ◌++◌, refl, sym, subst, ap, ◌∙◌, ℕ, true≢false}
pub use Rattle.std.proofs.raw_atomic.Walks.{proved_at, leaves}
pub use Rattle.std.specs.Prelude.{IsTrue, is_some}
pub use Rattle.std.specs.contracts.impls.GlobalAllocator.TheImpl.{ghosts}
pub use Rattle.std.specs.declared.option.Option.{Option}
pub use Rattle.std.specs.declared.option.Option.TheVariants.{None, Some}
pub use Rattle.std_alloc.proofs.BoxSteps.Steps.{box_out, box_in}
pub use Rattle.std_alloc.specs.Box.Ownership.{box_owns}
pub use Rattle.core.proofs.alloc.Calls.{handle_tells, Goes-blank, Al}
pub use Rattle.core.proofs.atomic.Steps.{Ptr-Good, fm}
pub use Rattle.core.proofs.cell.Inside.{Good}
pub use seplogic.Ra.Ura.{Ura}
pub use mir.MapTy.{inst_fn}
pub use mir.Raw.{raw as bare}
pub use mir.Syntax.{a_type, dcons, dnil, impl, tnil}
pub use mir.Val.{Val, vptr, vstruct, of_list, vcons, vnil, has_ty, WT}
pub use base.Fml.{ftrue, flft, fsep, Fml}
pub use base.Logic.{SProp, emp, ent, id⊢, never, fst∗}
pub use prog.Wp.{WpFn}
pub use contract.Monad.{fact, fact_i}
pub use contract.Running.{tables}
pub use types.ByLocal.{alloc_all, pass_all, free_all, look_at, get, sets, get_in, lands_last, env, lands_as}
pub use types.Kit.{‵, raw, ◌⊛◌, ◌$◌, ◌∵◌, !, qed, by, move, keep, drop, split, fsplit, fjoin, use0, prop, regoal, suffices, some, later, at_ret, split3, join, pick, use1, await, rewrite, feq_i, fpick, feq_l, Item, Goal, Seq, Step, step, fpack}
pub use types.Logic.{sem, Logic}
pub use types.Part.{agg, sub, whole}
pub use types.Run.{no_more, and_then, returns, enter, stop, fld, of_opd, first, blocks, exec}
pub use denote.Builtin.{RawPtr}
pub use denote.Exit.{yes, no}
pub use denote.Param.{param, layout, bounded}
pub use denote.Param.Laws.{param_laws, Laws}
pub use denote.RattleType.{owns, RattleType, Valss}
pub use denote.RawPtr.{ptr_val, block_ptr, Ptr, null_ptr, in_a_block}
pub use denote.Signature.{types_at, plain}
pub use denote.Steps.{nothing, heard, only}
pub use denote.Struct.Owning.{shape, to}
pub use denote.Struct.Struct.{within}
pub use denote.Triple.Call.{calls_at_last, calls_at}
pub use denote.Triple.Entry.{alive}
pub use denote.Triple.Spec.{triple_of}
pub use denote.Triple.Walked.{Goes-dropped, Stays, stay_dropped, walk_of}
pub use Rattle.std.proofs.alloc.Global.TheLaws.{the_row_laws as heap_laws}

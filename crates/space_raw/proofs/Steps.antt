-- The names that walks cite.
pub use Rattle.std.proofs.Common.{List, MutBor, [], ap, arith, length, lit<, map, refl, sym, take, ℕ, ◌*◌, ◌++◌, ◌+◌, ◌<◌, ◌^◌, ◌∙◌, ◌∷◌, ◌≡◌, ◌≤◌}
pub use Rattle.std.proofs.RcSteps.{word-Good}
pub use Rattle.std.proofs.alloc.Calls.{Al, Goes-blank, seen}
pub use Rattle.std.proofs.raw_atomic.Walks.{leaves, proved_at}
pub use Rattle.std.specs.Prelude.{Some, ℤ}
pub use base.Fml.{Fml, GName, Lft, Share, fat, flft, froom, fsep, ftrue}
pub use base.Fraction.{full_share}
pub use base.Logic.{SProp, emp, ent, id⊢, never, sep}
pub use contract.BorrowLft.{⊑_trans, ◌⊑◌}
pub use contract.Monad.{fact, fact_i}
pub use contract.Running.{tables}
pub use denote.Array.{Array}
pub use denote.Builtin.{i16, usize}
pub use denote.Follow.{follows}
pub use denote.FollowSlice.{Elements, lends_Elements}
pub use denote.Index.{whole_in, whole_out}
pub use denote.Memory.{cell_at, mem}
pub use denote.Opens.{hide, unhide}
pub use denote.Param.{bounded, layout}
pub use denote.RattleType.{owns}
pub use denote.RawPtr.{Ptr, block_ptr, in_a_block}
pub use denote.Signature.{plain, types_at}
pub use denote.Slice.{MutSlice, elements_shared, slice_val}
pub use denote.Steps.{heard, nothing, opens}
pub use denote.Triple.Entry.{alive}
pub use denote.Triple.Table.{framed}
pub use denote.Triple.Walked.{Goes-dropped, Goes-spent_ref, Stays, ends_at, says, stay_dropped, walk_of}
pub use mir.MapTy.{inst_fn}
pub use mir.Syntax.{Args, Fn, Ty, a_type, dcons, dnil, named}
pub use mir.Val.{Val, vint, vptr}
pub use prog.Capped.{capped_is}
pub use prog.Wp.{Env, WpFn}
pub use seplogic.Ra.Ura.{Ura}
pub use types.ByLocal.{alloc_all, env, free_all, get, get_in, give_at, look_at, pass_all, sets, sets_last, take_at}
pub use types.Kit.{ !, at_ret, await, by, done, drop, feq_i, fjoin, flt_i, fpack, fsplit, fsplit3, group, join, later, move, pick, prop, qed, raw, regoal, rewrite, some, split, split3, suffices, use0, use1, use2, ‵, ◌$◌, ◌∵◌, ◌⊛◌}
pub use types.Logic.{Logic, sem}
pub use types.Part.{agg, sub, whole}
pub use types.Run.{and_then, bin, blocks, enter, exec, first, fld, lit, no_more, of_opd, returns, stop}
pub use types.SemTy.{cells}

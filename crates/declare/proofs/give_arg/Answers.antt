-- `give_arg` meets its contract: the checks are the definition's; the count of arguments before is the new one's place.
-- Assumes nothing.
use Rattle.std.proofs.Common.{le_trans, refl, sym, ◌∙◌}
use Rattle.reply.specs.declared.Refusal.{Refusal}
use Rattle.reply.proofs.Asked.{seen, below_next}
use Rattle.reply.proofs.Answered.{tested, refused, absent, changed, accepted}
use Rattle.declare.proofs.Can.{has_value, value_typed, has_owns, has_args, has_param, param_value, param_type, some_left, can_feed}
use Rattle.declare.proofs.Owns.{give_no_value, give_declared, give_full, give_other_type, given}
use Rattle.declare.proofs.give_arg.Goals as goal

pub returns-in_err-branch : goal.returns-in_err-branch
returns-in_err-branch c = λ t h. let p = c.in_err-branch.ensures in rw (p.missed _ t.form (seen h)) (absent h _ _ c.from_residual.ensures.1 p.absent)

pub returns-in_err-val : goal.returns-in_err-val
returns-in_err-val c =
    λ t h.
    let p = c.in_ok-branch.ensures in
    let x = c.in_err-val.ensures in
    rw (← p.same, give_no_value t.graph t.form _ c.args.y c.args.z (p.there _ t.form (seen h)) (rw (← h.leaves.form.next) x.1))
    (absent h _ _ c.from_residual-in_err-val.ensures.1 x.0)

pub returns-then-is_declared : goal.returns-then-is_declared
returns-then-is_declared c =
    λ t h.
    let p = c.in_ok-branch.ensures in
    let x = c.in_ok-val.ensures in
    rw (
      ← p.same,
      ← x.0,
      give_declared t.graph t.form _ _ c.args.z (p.there _ t.form (seen h)) (below_next h _ x.1)
          (rw (← c.dest_count.ensures.value _ (seen h)) c.if-dest_count-z.false)
          (tested (c.is_declared.ensures _ (seen h)) c.if-is_declared.true),
    )
    (refused h Refusal.Declared refl)

pub argument_count-n-requires : goal.argument_count-n-requires
argument_count-n-requires c = (_, has_args c.requires.1 _ _ c.in_ok-branch.ensures.small (le_trans c.if-dest_count-z.false c.dest_count.ensures.upper_bound))

pub own_count-requires : goal.own_count-requires
own_count-requires c = (_, has_owns c.requires.1 _ c.dest-dest.ensures.result_lt_blocks)

pub returns-then-own_count-n : goal.returns-then-own_count-n
returns-then-own_count-n c =
    λ t h.
    let p = c.in_ok-branch.ensures in
    let x = c.in_ok-val.ensures in
    let li = le_trans c.if-dest_count-z.false c.dest_count.ensures.upper_bound in
    rw (
      ← p.same,
      ← x.0,
      give_full t.graph t.form _ _ c.args.z (p.there _ t.form (seen h)) (below_next h _ x.1)
          (rw (← c.dest_count.ensures.value _ (seen h)) c.if-dest_count-z.false)
          (tested (c.is_declared.ensures _ (seen h)) c.if-is_declared.false)
          (rw (
            ← c.dest-dest.ensures.result_value _ (seen h),
            ← c.own_count.ensures _ (has_owns h _ c.dest-dest.ensures.result_lt_blocks),
            ← c.argument_count-n.ensures _ (has_args h _ _ p.small li),
          ) c.if-own_count-n.true),
    )
    (refused h Refusal.OwnFull refl)

pub block_param-param-requires : goal.block_param-param-requires
block_param-param-requires c =
    let h = c.requires.1 in
    let ld = c.dest-dest.ensures.result_lt_blocks in
    let place = c.argument_count-n.ensures _ (has_args h _ _ c.in_ok-branch.ensures.small
    (le_trans c.if-dest_count-z.false c.dest_count.ensures.upper_bound)) in
    let own = c.own_count.ensures _ (has_owns h _ ld) in
    (_, has_param h _ _ _ _ ld place (rw (← own) c.if-own_count-n.false))

pub value_type-requires : goal.value_type-requires
value_type-requires c = let h = c.requires.1 in (_, has_value h _ (below_next h _ c.in_ok-val.ensures.1))

pub value_type-requires-2 : goal.value_type-requires-2
value_type-requires-2 c =
    let h = c.requires.1 in
    let ld = c.dest-dest.ensures.result_lt_blocks in
    let place = c.argument_count-n.ensures _ (has_args h _ _ c.in_ok-branch.ensures.small
    (le_trans c.if-dest_count-z.false c.dest_count.ensures.upper_bound)) in
    let own = c.own_count.ensures _ (has_owns h _ ld) in (
      _,
      param_value h _ _ _ _ ld place (rw (← own) c.if-own_count-n.false)
          (c.block_param-param.ensures _ (has_param h _ _ _ _ ld place (rw (← own) c.if-own_count-n.false))),
    )

pub returns-then-value_type : goal.returns-then-value_type
returns-then-value_type c =
    λ t h.
    let p = c.in_ok-branch.ensures in
    let x = c.in_ok-val.ensures in
    let l = below_next h _ x.1 in
    let ld = c.dest-dest.ensures.result_lt_blocks in
    let place = c.argument_count-n.ensures _ (has_args h _ _ p.small (le_trans c.if-dest_count-z.false c.dest_count.ensures.upper_bound)) in
    let own = c.own_count.ensures _ (has_owns h _ ld) in
    let to = c.dest-dest.ensures.result_value _ (seen h) in
    let typed = param_type h _ _ _ _ ld place (rw (← own) c.if-own_count-n.false) to
    (c.block_param-param.ensures _ (has_param h _ _ _ _ ld place (rw (← own) c.if-own_count-n.false))) c.value_type-2.ensures.1 in
    rw (
      ← p.same,
      ← x.0,
      give_other_type t.graph t.form _ _ c.args.z (p.there _ t.form (seen h)) l (rw (← c.dest_count.ensures.value _ (seen h)) c.if-dest_count-z.false)
          (tested (c.is_declared.ensures _ (seen h)) c.if-is_declared.false) (some_left h _ _ _ _ ld place (rw (← own) c.if-own_count-n.false) to)
          (λ q. c.if-value_type.true (c.value_type.ensures.1 _ (has_value h _ l) (value_typed h _ l) ∙ q ∙ sym typed)),
    )
    (refused h Refusal.OtherType refl)

pub append_argument-requires : goal.append_argument-requires
append_argument-requires c =
    let h = c.requires.1 in
    let ld = c.dest-dest.ensures.result_lt_blocks in
    let li = le_trans c.if-dest_count-z.false c.dest_count.ensures.upper_bound in
    let place = c.argument_count-n.ensures _ (has_args h _ _ c.in_ok-branch.ensures.small li) in
    let own = c.own_count.ensures _ (has_owns h _ ld) in
    (_, can_feed h _ _ _ _ ld place (rw (← own) c.if-own_count-n.false) c.in_ok-branch.ensures.small li)

pub returns : goal.returns
returns c =
    λ t h.
    let p = c.in_ok-branch.ensures in
    let x = c.in_ok-val.ensures in
    let l = below_next h _ x.1 in
    let ld = c.dest-dest.ensures.result_lt_blocks in
    let li = le_trans c.if-dest_count-z.false c.dest_count.ensures.upper_bound in
    let place = c.argument_count-n.ensures _ (has_args h _ _ p.small li) in
    let own = c.own_count.ensures _ (has_owns h _ ld) in
    let to = c.dest-dest.ensures.result_value _ (seen h) in
    let typed = param_type h _ _ _ _ ld place (rw (← own) c.if-own_count-n.false) to
    (c.block_param-param.ensures _ (has_param h _ _ _ _ ld place (rw (← own) c.if-own_count-n.false))) c.value_type-2.ensures.1 in
    rw (
      ← p.same,
      ← x.0,
      given t.graph t.form _ _ c.args.z (p.there _ t.form (seen h)) l (rw (← c.dest_count.ensures.value _ (seen h)) c.if-dest_count-z.false)
          (tested (c.is_declared.ensures _ (seen h)) c.if-is_declared.false) (some_left h _ _ _ _ ld place (rw (← own) c.if-own_count-n.false) to)
          (tested (c.value_type.ensures.1 _ (has_value h _ l) (value_typed h _ l)) c.if-value_type.false ∙ typed),
    )
    (accepted _ _ c.accept.ensures place (changed h refl refl (seen h).cells
    (c.append_argument.ensures _ (can_feed h _ _ _ _ ld place (rw (← own) c.if-own_count-n.false) p.small li))))

-- Why the chains of tests refuse: for one of the reasons that they name. P is whatever these have in common.
use mathlib.Core.Bool.{Bool, true, false, cond}
use mathlib.Core.List.{List}
use Prim.Native.Nat.{ℕ}
use lib.Dec.{eqb}
use Rattle.std.proofs.Common.{Err}
use Rattle.record.specs.Refusal.{Check, passed, refuse_if, ◌then◌}
use Rattle.record.specs.declared.reasons.Reason.{Reason}
use Rattle.record.specs.declared.reasons.Reason.TheVariants.{CutShort, WrongLength, WrongKind, Limit, Format, Name, Field, Start, Side, NotLinear}
use Rattle.record.specs.Record.{head_of, check_frame, check_opening, check_step}
use Rattle.record.specs.declared.Head.{Head}
use Rattle.record.specs.declared.ChannelFields.{ChannelFields}
use Rattle.record.specs.declared.StateFields.{StateFields}
use Rattle.record.specs.declared.Record.{Record}
use Rattle.record.specs.declared.Record.TheVariants as R
use Rattle.states.specs.Judge as J
use Rattle.condition.specs.declared.Local.{Local}
use Rattle.condition.specs.declared.Test.{Test}
use Rattle.condition.specs.declared.Clause.TheVariants as C
use Rattle.condition.specs.declared.Item.{Item}
use Rattle.condition.specs.declared.Item.TheVariants as I
use Rattle.condition.specs.Items as E
use Rattle.condition.specs.Judge as K

-- if the tests refuse, then for such a reason
pub data Only (P : Reason → Type 0) : Check → Type 0 where
  nothing : Only P passed
  because : {r : Reason} → P r → Only P (Err r)

module _ (P : Reason → Type 0) where
  pub refuse : (t : Bool) {r : Reason} → P r → Only P (refuse_if t r)
  unfolding refuse_if
  refuse true p = because p
  refuse false p = nothing

  then-only : {a b : Check} → Only P a → Only P b → Only P (a then b)
  then-only nothing q = q
  then-only (because p) q = because p

  if : (t : Bool) {a b : Check} → Only P a → Only P b → Only P (cond t a b)
  if true p q = p
  if false p q = q

  -- ---- a step

  frame : (s : List ℕ) (at : ℕ) → P CutShort → P WrongLength → Only P (check_frame s at)
  unfolding check_frame
  frame s at short long = then-only (refuse _ short) (then-only (refuse _ long) (refuse _ short))

  opening : (s : List ℕ) (at : ℕ) → P CutShort → P WrongLength → P WrongKind → Only P (check_opening s at)
  unfolding check_opening
  opening s at short long kind = then-only (frame s at short long) (then-only (refuse _ kind) (refuse _ long))

  pub step : (s : List ℕ) (at : ℕ) → P CutShort → P WrongLength → P WrongKind → P Format → Only P (check_step s at)
  unfolding check_step
  step s at short long kind format = then-only (opening s at short long kind) (refuse _ format)

  pub condition_step : (c : List ℕ) (at owed : ℕ) → P CutShort → P WrongLength → P WrongKind → Only P (E.check_step c at owed)
  unfolding E.check_step
  condition_step c at owed short long kind = then-only (frame c at short long) (then-only (refuse _ kind) (refuse _ long))

  -- ---- a record of a run

  head : (h : Head) → P Limit → Only P (J.check_head h)
  unfolding J.check_head
  head h limit = then-only (refuse _ limit) (then-only (refuse _ limit) (refuse _ limit))

  channel : (n at : ℕ) (l : ChannelFields) → P Name → Only P (J.check_channel n at l)
  unfolding J.check_channel
  channel n at l name = then-only (refuse _ name) (then-only (refuse _ name) (then-only (refuse _ name) (refuse _ name)))

  names : (h : Head) (f : StateFields) → P Name → Only P (J.check_names h f)
  unfolding J.check_names
  names h f name = then-only (refuse _ name) (then-only (refuse _ name) (refuse _ name))

  fields : (f : StateFields) → P Field → Only P (J.check_fields f)
  unfolding J.check_fields
  fields f field = then-only (refuse _ field) (then-only (refuse _ field) (then-only (refuse _ field) (refuse _ field)))

  starts : (f : StateFields) (count : ℕ) → P Start → Only P (J.check_start f count)
  unfolding J.check_start
  starts f count start = then-only (refuse _ start) (refuse _ start)

  sides : (s : List ℕ) (f : StateFields) → P Side → Only P (J.check_side s f)
  unfolding J.check_side
  sides s f side = if (eqb f.event 2) (refuse _ side) (if (eqb f.event 3) (refuse _ side) nothing)

  state : (s counts : List ℕ) (f : StateFields) → P Limit → P Name → P Field → P Start → P Side → Only P (J.check_state s counts f)
  unfolding J.check_state
  state s counts f limit name field start side =
      then-only (names (head_of s) f name) (then-only (refuse _ limit) (then-only (fields f field) (then-only (starts f _ start) (sides s f side))))

  pub record_judged : (s counts : List ℕ) (at : ℕ) (r : Record) → P Limit → P Name → P Field → P Start → P Side → Only P (J.check_record s counts at r)
  record_judged s counts at (R.Head h) limit name field start side = head h limit
  record_judged s counts at (R.Channel l) limit name field start side = channel (head_of s).processes at l name
  record_judged s counts at (R.State f) limit name field start side = state s counts f limit name field start side
  record_judged s counts at R.End limit name field start side = refuse _ start

  -- ---- a record of a condition

  clauses : (n : ℕ) → P Limit → Only P (K.check_head n)
  unfolding K.check_head
  clauses n limit = refuse _ limit

  local : (h : Head) (l : Local) → P Name → P Field → Only P (K.check_local h l)
  unfolding K.check_local
  local h l name field = then-only (refuse _ name) (then-only (refuse _ name) (then-only (refuse _ field) (refuse _ field)))

  test : (h : Head) (t : Test) → P Name → P Field → P NotLinear → Only P (K.check_test h t)
  unfolding K.check_test
  test h t name field not_linear = then-only (refuse _ name) (then-only (refuse _ field) (then-only (refuse _ field) (refuse _ not_linear)))

  pub item_judged : (h : Head) (r : Item) → P Limit → P Name → P Field → P NotLinear → Only P (K.check_item h r)
  item_judged h (I.Head n) limit name field not_linear = clauses n limit
  item_judged h (I.Clause (C.Local l)) limit name field not_linear = local h l name field
  item_judged h (I.Clause (C.Channel t)) limit name field not_linear = test h t name field not_linear
  item_judged h I.End limit name field not_linear = nothing

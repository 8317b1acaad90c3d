-- What an accepted record tells beside what is known so far.
use mathlib.Core.Path.{◌≡◌, refl, sym, ap, ◌∙◌, subst}
use mathlib.Core.Logic.{⊎_elim}
use mathlib.Core.Bool.{Bool, true, false, not, ◌&&◌, ◌||◌}
use mathlib.Core.List.{List}
use Prim.Native.Nat.{ℕ, zero, suc, ◌+◌, ◌≤◌, ◌<◌}
use native.Mathlib.Nat.{eq-or-lt_of_le}
use native.Mathlib.Numerals.{add-one}
use native.Mathlib.Omega.{arith}
use borrow.Author.Tests.{ltb-false, lt-ltb, leb-false, eqb-true, eqb-false, eq-eqb, ne_eqb, not-false}
use lib.Dec.{eqb}
use lib.ListN.{length, get_or, take}
use Rattle.std.specs.List.{list_any}
use Rattle.std.proofs.lemmas.List.Folds.{list_any_more}
use Rattle.model.proofs.Numbers.{never, positive}
use Rattle.record.specs.Layout.{channel_place, state_length}
use Rattle.record.specs.Inner.{states_place}
use Rattle.record.specs.Refusal.{passed}
use Rattle.record.specs.declared.reasons.Reason.TheVariants.{Limit, Name, Field, Start, Side}
use Rattle.record.specs.Record.{length_at, length_of, head_of, check_opening, state_fields_at, record_at}
use Rattle.record.specs.declared.Record.TheVariants as R
use Rattle.record.specs.declared.Head.{Head}
use Rattle.record.specs.declared.ChannelFields.{ChannelFields}
use Rattle.record.specs.declared.StateFields.{StateFields}
use Rattle.record.proofs.Laws.{then_ok, refuse_if_ok, opened, opened_whole, by_place}
use Rattle.states.specs.States.{channel_at}
use Rattle.states.specs.Judge.{check_head, check_channel, check_names, check_fields, check_start, check_side, check_state, lacks}

-- a test of two halves that doesn't fail
half : (a b : Bool) → (a && b) ≡ false → a ≡ true → b ≡ false
half true b e h = e
half false b e h = never (cc)

same : (a b : ℕ) → not (eqb a b) ≡ false → a ≡ b
same a b e = eqb-true a b (not-false (eqb a b) e)

-- ---- head and channels

pub record HeadOk (h : Head) : Type 0 where
  pub some : 1 ≤ h.processes
  pub few : h.processes ≤ 8
  pub channels : h.channels ≤ 16

pub head_ok : (h : Head) → check_head h ≡ passed → HeadOk h
unfolding check_head
head_ok h e =
    let a = then_ok _ _ e in
    let b = then_ok _ _ a.1 in
    record {
      some = positive (eqb-false _ 0 (refuse_if_ok _ _ a.0));
      few = ltb-false _ _ (refuse_if_ok _ _ b.0);
      channels = ltb-false _ _ (refuse_if_ok _ _ b.1);
    }

pub record ChannelRecordOk (n at : ℕ) (l : ChannelFields) : Type 0 where
  pub turn : channel_place l.number ≡ at
  pub from : l.from < n
  pub to : l.to < n
  pub apart : l.from ≡ l.to → ⊥

pub channel_ok : (n at : ℕ) (l : ChannelFields) → check_channel n at l ≡ passed → ChannelRecordOk n at l
unfolding check_channel
channel_ok n at l e =
    let a = then_ok _ _ e in
    let b = then_ok _ _ a.1 in
    let d = then_ok _ _ b.1 in
    record {
      turn = same _ _ (refuse_if_ok _ _ a.0);
      from = leb-false _ _ (refuse_if_ok _ _ b.0);
      to = leb-false _ _ (refuse_if_ok _ _ d.0);
      apart = eqb-false _ _ (refuse_if_ok _ _ d.1);
    }

-- ---- states

pub record NamesOk (h : Head) (f : StateFields) : Type 0 where
  pub process : f.process < h.processes
  pub send : f.event ≡ 2 → f.channel < h.channels
  pub receive : f.event ≡ 3 → f.channel < h.channels

pub named : (h : Head) (f : StateFields) → check_names h f ≡ passed → NamesOk h f
unfolding check_names
named h f e =
    let a = then_ok _ _ e in
    let b = then_ok _ _ a.1 in
    record {
      process = leb-false _ _ (refuse_if_ok _ Name a.0);
      send = λ z. leb-false _ _ (half _ _ (refuse_if_ok _ Name b.0) (eq-eqb _ 2 z));
      receive = λ z. leb-false _ _ (half _ _ (refuse_if_ok _ Name b.1) (eq-eqb _ 3 z));
    }

-- the event is known, and what it doesn't use is zero
pub record FieldsOk (f : StateFields) : Type 0 where
  pub event : f.event < 4
  pub channel : f.event < 2 → f.channel ≡ 0
  pub message : f.event < 2 → f.message ≡ 0
  pub stamp : (f.event ≡ 2 → ⊥) → f.stamp ≡ 0

pub fields_ok : (f : StateFields) → check_fields f ≡ passed → FieldsOk f
unfolding check_fields
fields_ok f e =
    let a = then_ok _ _ e in
    let b = then_ok _ _ a.1 in
    let d = then_ok _ _ b.1 in
    let few : f.event ≤ 3 = ltb-false _ _ (refuse_if_ok _ Field a.0) in
    record {
      event = omega arith;
      channel = λ l. same _ _ (half _ _ (refuse_if_ok _ Field b.0) (lt-ltb _ _ l));
      message = λ l. same _ _ (half _ _ (refuse_if_ok _ Field d.0) (lt-ltb _ _ l));
      stamp = λ n. same _ _ (half _ _ (refuse_if_ok _ Field d.1) (ap not (ne_eqb _ 2 n)));
    }

pub record StateOk (s : List ℕ) (count : ℕ) (f : StateFields) : Type 0 where
  pub names : NamesOk (head_of s) f
  pub room : count < 512
  pub fields : FieldsOk f
  pub start : f.event ≡ 0 → count ≡ 0
  pub first : count ≡ 0 → f.event ≡ 0
  pub sends : f.event ≡ 2 → (channel_at s f.channel).from ≡ f.process
  pub takes : f.event ≡ 3 → (channel_at s f.channel).to ≡ f.process

pub state_ok : (s counts : List ℕ) (f : StateFields) → check_state s counts f ≡ passed → StateOk s (get_or counts f.process 0) f
unfolding check_state check_start check_side
state_ok s counts f e =
    let a = then_ok _ _ e in
    let b = then_ok _ _ a.1 in
    let d = then_ok _ _ b.1 in
    let g = then_ok _ _ d.1 in
    let starts = then_ok _ _ g.0 in
    record {
      names = named (head_of s) f a.0;
      room = leb-false _ _ (refuse_if_ok _ Limit b.0);
      fields = fields_ok f d.0;
      start = λ z. same _ _ (half _ _ (refuse_if_ok _ Start starts.0) (eq-eqb _ 0 z));
      first = λ z. first f.event (get_or counts f.process 0) (refuse_if_ok _ Start starts.1) z;
      sends = λ z. same _ _ (refuse_if_ok _ Side (simp z at g.1));
      takes = λ z. same _ _ (refuse_if_ok _ Side (simp z at g.1));
    }
  where
    first : (x y : ℕ) → (not (eqb x 0) && eqb y 0) ≡ false → y ≡ 0 → x ≡ 0
    first x y e z = by (eqb x 0) refl (rw (eq-eqb y 0 z) at e)
      where
        by : (t : Bool) → eqb x 0 ≡ t → (not t && true) ≡ false → x ≡ 0
        by true q h = eqb-true x 0 q
        by false q h = never (cc)

-- ---- the end: every process has a state

-- which is what a look through the counts finds
pub lacks_any : (counts : List ℕ) (n : ℕ) → n ≤ length counts → lacks counts n ≡ list_any (λ count. eqb count 0) (take n counts)
unfolding lacks
lacks_any counts zero h = refl
lacks_any counts (suc n) h =
    ap (λ some. some || eqb (get_or counts n 0) 0) (lacks_any counts n (omega arith))
    ∙ rw (← add-one) (sym (list_any_more (λ count. eqb count 0) counts n 0 (omega arith)))

pub none_lacks : (counts : List ℕ) (n : ℕ) → lacks counts n ≡ false → (p : ℕ) → p < n → get_or counts p 0 ≡ 0 → ⊥
unfolding lacks
none_lacks counts zero e p h z = omega arith
none_lacks counts (suc n) e p h z = go (lacks counts n) refl (eqb (get_or counts n 0) 0) refl e (none_lacks counts n)
  where
    go : (x : Bool) → lacks counts n ≡ x → (y : Bool) → eqb (get_or counts n 0) 0 ≡ y → (x || y) ≡ false
        → (lacks counts n ≡ false → (p : ℕ) → p < n → get_or counts p 0 ≡ 0 → ⊥) → ⊥
    go true a y b e rest = never (cc)
    go false a true b e rest = never (cc)
    go false a false b e rest = ⊎_elim
        (λ q. let w : p ≡ n = omega arith in eqb-false _ 0 b (subst (λ i. get_or counts i 0 ≡ 0) w z))
        (λ q. rest a p (omega arith) z)
        (eq-or-lt_of_le h)

-- ---- where a record stands

pub record StateThere (s : List ℕ) (at : ℕ) (f : StateFields) : Type 0 where
  pub past : at ≡ 0 → ⊥
  pub behind : states_place (head_of s) ≤ at
  pub whole : at + state_length (head_of s) ≤ length s
  pub long : length_at s at ≡ state_length (head_of s)
  pub fields : f ≡ state_fields_at s at

pub state_there : (s : List ℕ) (at : ℕ) (f : StateFields) → check_opening s at ≡ passed → record_at s at ≡ R.State f → StateThere s at f
unfolding length_of
state_there s at f w = by_place s at (λ r. r ≡ R.State f → StateThere s at f) w
    (λ z k e. never (cc))
    (λ l z k e. never (cc))
    (λ l z k e. record { past = z; behind = l; whole = opened_whole s at 3 w k; long = (opened s at w).size ∙ ap (λ n. length_of n (head_of s)) k; fields = cc })
    (λ l z k e. never (cc))

pub end_there : (s : List ℕ) (at : ℕ) → check_opening s at ≡ passed → record_at s at ≡ R.End → (at ≡ 0 → ⊥) × (states_place (head_of s) ≤ at) × (length_at s at ≡ 4)
unfolding length_of
end_there s at w = by_place s at (λ r. r ≡ R.End → (at ≡ 0 → ⊥) × (states_place (head_of s) ≤ at) × (length_at s at ≡ 4)) w
    (λ z k e. never (cc))
    (λ l z k e. never (cc))
    (λ l z k e. never (cc))
    (λ l z k e. (z, l, (opened s at w).size ∙ ap (λ n. length_of n (head_of s)) k))

-- How a call moves the seven counts, for any way in which transactions stand: over its clock, and over its verdict.
use Prim.Native.Nat.{ℕ, ◌+◌, ◌<◌}
use mathlib.Core.Bool.{Bool, true, false, cond, not, ◌&&◌}
use mathlib.Core.List.Memᴰ.{head as here}
use mathlib.Core.List.Memᴰ.{tail as there}
use mathlib.Core.List.{
  List,
  [],
  ◌∷◌,
  ◌++◌,
  append-nil,
  Memᴰ as In,
}
use mathlib.Core.Path.{◌≡◌, refl, sym, ap, ◌∙◌, subst}
use native.Mathlib.Omega.{arith}
use lib.Dec.{eqb}
use lib.ListN.{length, get_or}
use borrow.Author.Rules.{rules}
use borrow.Author.Tests.{eqb-true}
use Rattle.frame_table.specs.declared.fields.Bits128.{Bits128}
use Rattle.frame_table.specs.Names.{subscriber, same_bits}
use Rattle.frame_table.proofs.Bits.{bits-same}
use Rattle.octets.proofs.Tests.{never, every-below}
use Rattle.message.specs.declared.codes.ReturnCode.{ReturnCode}
use Rattle.bank_state.specs.Clock.{is_idle}
use Rattle.bank_state.specs.Rows.{count_of}
use Rattle.message.specs.declared.directions.Direction.{Direction}
use Rattle.bank_verdicts.specs.declared.verdict.UploadAction.TheVariants as up
use Rattle.bank_verdicts.specs.declared.verdict.DownloadAction.TheVariants as down
use Rattle.bank_verdicts.specs.declared.verdict.Action.{Action}
use Rattle.bank_verdicts.specs.declared.verdict.Action.TheVariants as action
use Rattle.bank_verdicts.specs.declared.verdict.SignedOrder.{SignedOrder}
use Rattle.bank_verdicts.specs.declared.verdict.Verdict.{Verdict}
use Rattle.bank_verdicts.specs.declared.verdict.Verdict.TheVariants as verdict
use Rattle.opening_counts.specs.declared.seven.Counts.{Counts}
use Rattle.opening_counts.specs.Counts.{count_size, seven, count_row, sum, with_dropped, with_opened, action_counts, verdict_counts}
use Rattle.bank_history.specs.History.{Exchange, is_opening}
use Rattle.bank_history.specs.Status.{
  Status,
  NotOpened,
  Open,
  Booked,
  Fetched,
  Skipped,
  EndedByReceipt,
  Cancelled,
  Dropped,
  if_open,
  drop_idle,
  is_download_of,
  action_status,
  other_status,
  status_after,
  opened_in,
  Numbered,
}
use Rattle.bank_history.proofs.Counts.{unit, count-append, count_same, count_none}
use Rattle.bank_history.proofs.Entries.{same_bits_lem, other-bits, and_no}
use Rattle.bank_history.proofs.JournalCounts.{numbered-low}
use Rattle.bank_counts.specs.Counts.{way_of, is_pending, ends}
use Rattle.bank_counts.proofs.Laws.{count-three, count-balanced, count-after, counted-once}

-- how many of a list stand in a way
abbrev pub standing_by : (Bits128 → Status) → List Bits128 → ℕ → ℕ
standing_by σ l way = count_of (λ (t : Bits128). eqb (way_of (σ t)) way) l

-- so many for one way, none for the others
abbrev pub for : ℕ → ℕ → ℕ → ℕ
for own way n = cond (eqb own way) n 0

-- ---- one transaction

-- it stood as x and stands as y: as it stood, or it was open and has gone this way
abbrev Goes : ℕ → ℕ → Status → Status → Type 0
Goes own way x y =
    unit (eqb (way_of y) way) + unit (ends x y && eqb 0 way) ≡ unit (eqb (way_of x) way) + unit (ends x y && eqb own way)

none-ends : (x : Status) → ends x x ≡ false
none-ends x = at (is_pending x)
  where
    at : (b : Bool) → b && not b ≡ false
    at true = refl
    at false = refl

stays : (own way : ℕ) (x : Status) → Goes own way x x
stays own way x = rw (none-ends x)

-- the open ones that pass a test become y
open-goes : (p : Direction → ℕ → ℕ → Bool) (y : Status) → is_pending y ≡ false → (way : ℕ) (x : Status) →
    Goes (way_of y) way x (if_open (λ (d : Direction) (s last : ℕ). cond (p d s last) y (Open d s last)) x)
open-goes p y z way NotOpened = refl
open-goes p y z way (Open d s last) = at (p d s last)
  where
    at : (b : Bool) → Goes (way_of y) way (Open d s last) (cond b y (Open d s last))
    at true = rw z (omega arith)
    at false = refl
open-goes p y z way Booked = refl
open-goes p y z way Fetched = refl
open-goes p y z way Skipped = refl
open-goes p y z way EndedByReceipt = refl
open-goes p y z way Cancelled = refl
open-goes p y z way Dropped = refl

drop-goes : (clock way : ℕ) (x : Status) → Goes 6 way x (drop_idle clock x)
drop-goes clock = open-goes (λ (d : Direction) (s last : ℕ). is_idle clock last) Dropped refl

-- another transaction: a receipt answered 011000 ends it, or it stands as it stood
other_goes : (k : Action) (e : Exchange) (way : ℕ) (x : Status) → Goes 4 way x (other_status k e x)
other_goes (action.Upload a) e = stays 4
other_goes (action.Download (down.Opened n)) e = stays 4
other_goes (action.Download (down.Delivered n)) e = stays 4
other_goes (action.Download (down.SentAgain n)) e = stays 4
other_goes (action.Download (down.Point d)) e = stays 4
other_goes (action.Download down.Cancelled) e = stays 4
other_goes (action.Download down.Confirmed) e =
    open-goes (λ (d : Direction) (owner last : ℕ). is_download_of d owner (subscriber e.request)) EndedByReceipt refl
other_goes (action.Download down.Declined) e = stays 4

-- ---- the clock

module _ (σ : Bits128 → Status) (l : List Bits128) (clock : ℕ) where
  abbrev is_gone : Bits128 → Bool
  is_gone t = ends (σ t) (drop_idle clock (σ t))

  -- how many it drops
  abbrev pub idle : ℕ
  idle = count_of is_gone l

  pub clock-moves : (way : ℕ) →
      standing_by (λ (t : Bits128). drop_idle clock (σ t)) l way + for 0 way idle ≡ standing_by σ l way + for 6 way idle
  clock-moves way =
      let a = count-balanced (λ (t : Bits128). eqb (way_of (drop_idle clock (σ t))) way)
      (λ (t : Bits128). is_gone t && eqb 0 way) (λ (t : Bits128). eqb (way_of (σ t)) way)
      (λ (t : Bits128). is_gone t && eqb 6 way) l (λ t i. drop-goes clock way (σ t)) in
      let b = count-after (eqb 0 way) is_gone l in
      let c = count-after (eqb 6 way) is_gone l in
      omega arith

-- ---- a verdict

-- the actions that open a transaction
pub data Opens : Action → Type 0 where
  upload : (n : ℕ) → Opens (action.Upload (up.Opened n))
  download : (n : ℕ) → Opens (action.Download (down.Opened n))

pub opens-is : {k : Action} → Opens k → is_opening k ≡ true
opens-is (upload n) = refl
opens-is (download n) = refl

pub opens-own : {k : Action} → Opens k → (e : Exchange) (x : Status) → way_of (action_status k e x) ≡ 0
opens-own (upload n) e x = refl
opens-own (download n) e x = refl

pub opens-others : {k : Action} → Opens k → (e : Exchange) (x : Status) → other_status k e x ≡ x
opens-others (upload n) e x = refl
opens-others (download n) e x = refl

opens-counted : {k : Action} → Opens k → (n : ℕ) (c : Counts) → action_counts k n c ≡ with_opened c
opens-counted (upload m) n c = refl
opens-counted (download m) n c = refl

-- an action of t, of transactions that stand so
module _ (σ : Bits128 → Status) (l : List Bits128) (e : Exchange) (t : Bits128) (k : Action) where
  abbrev pub then : Bits128 → Status
  then x = status_after x (verdict.Of t k) e (σ x)

  -- the others that it ends
  abbrev is_ended : Bits128 → Bool
  is_ended x = not (same_bits x t) && ends (σ x) (other_status k e (σ x))

  abbrev pub others : ℕ
  others = count_of is_ended l

  abbrev is : Bits128 → Bool
  is x = same_bits x t

  -- t was open: wherever it stands in a list it goes its way, and the others that a receipt ends with it
  pub action-moves-in : {d : Direction} {s last : ℕ} → σ t ≡ Open d s last → (way : ℕ) →
      standing_by then l way + for 0 way (count_of is l) + for 0 way others
      ≡ standing_by σ l way + for (way_of (action_status k e (Open d s last))) way (count_of is l) + for 4 way others
  action-moves-in {d} {s} {last} z way =
      let a = count-three (λ (x : Bits128). eqb (way_of (then x)) way) (λ (x : Bits128). is x && eqb 0 way)
      (λ (x : Bits128). is_ended x && eqb 0 way) (λ (x : Bits128). eqb (way_of (σ x)) way)
      (λ (x : Bits128). is x && eqb own way) (λ (x : Bits128). is_ended x && eqb 4 way) l
      (λ x j. at x (same_bits x t) refl) in
      let b = count-after (eqb 0 way) is l in
      let c = count-after (eqb own way) is l in
      let f = count-after (eqb 0 way) is_ended l in
      let g = count-after (eqb 4 way) is_ended l in
      omega arith
    where
      own : ℕ
      own = way_of (action_status k e (Open d s last))

      at : (x : Bits128) (b : Bool) → same_bits x t ≡ b →
          unit (eqb (way_of (cond b (action_status k e (σ x)) (other_status k e (σ x)))) way) + unit (b && eqb 0 way)
          + unit ((not b && ends (σ x) (other_status k e (σ x))) && eqb 0 way)
          ≡ unit (eqb (way_of (σ x)) way) + unit (b && eqb own way)
          + unit ((not b && ends (σ x) (other_status k e (σ x))) && eqb 4 way)
      at x true y = rw (ap σ (bits-same x t y) ∙ z) (omega arith)
      at x false y = let o = other_goes k e way (σ x) in omega arith

  -- in a list with its numbers it stands once
  pub action-moves : Numbered 0 l → In t l → {d : Direction} {s last : ℕ} → σ t ≡ Open d s last → (way : ℕ) →
      standing_by then l way + for 0 way 1 + for 0 way others
      ≡ standing_by σ l way + for (way_of (action_status k e (Open d s last))) way 1 + for 4 way others
  action-moves numbered i {d} {s} {last} z way =
      subst (λ (m : ℕ). standing_by then l way + for 0 way m + for 0 way others
      ≡ standing_by σ l way + for (way_of (action_status k e (Open d s last))) way m + for 4 way others)
      (counted-once numbered i) (action-moves-in z way)

  -- t is new
  pub opening-moves : Numbered 0 l → Opens k → t.low ≡ length l → (way : ℕ) →
      standing_by then (l ++ (t ∷ [])) way ≡ standing_by σ l way + for 0 way 1
  unfolding count_of
  opening-moves numbered o new way =
      let a = count-append (λ (x : Bits128). eqb (way_of (then x)) way) l (t ∷ []) in
      let b = count_same (λ (x : Bits128). eqb (way_of (then x)) way) (λ (x : Bits128). eqb (way_of (σ x)) way) l
      (λ x i. rw (
        other-bits x t (λ z. let n = numbered-low numbered i in omega arith),
        opens-others o e (σ x),
      )) in
      let c : eqb (way_of (then t)) way ≡ eqb 0 way = rw (same_bits_lem t, opens-own o e (σ t)) in
      let f = ap unit c in
      omega arith

-- ---- the seven counts

-- what is said of each of the seven, by its place
pub record Each (P : ℕ → Type 0) : Type 0 where
  pub pending : P 0
  pub booked : P 1
  pub fetched : P 2
  pub skipped : P 3
  pub ended : P 4
  pub cancelled : P 5
  pub dropped : P 6

each : (P : ℕ → Type 0) → ((way : ℕ) → P way) → Each P
each P m = record {
  pending = m 0;
  booked = m 1;
  fetched = m 2;
  skipped = m 3;
  ended = m 4;
  cancelled = m 5;
  dropped = m 6;
}

at : Counts → ℕ → ℕ
at c way = get_or (count_row c) way 0

same-counts : {c c' : Counts} → Each (λ (way : ℕ). at c way ≡ at c' way) → c ≡ c'
unfolding at
same-counts {c} {c'} s =
    let same : seven (at c) ≡ seven (at c') =
    rw (s.pending, s.booked, s.fetched, s.skipped, s.ended, s.cancelled, s.dropped) in
    same

pub same-seven : (f g : ℕ → ℕ) → ((way : ℕ) → f way ≡ g way) → seven f ≡ seven g
unfolding at
same-seven f g m = let s = each _ m in same-counts (search rules)

-- the clock moves them
pub clock-counts : (σ : Bits128 → Status) (l : List Bits128) (clock : ℕ) →
    seven (standing_by (λ (t : Bits128). drop_idle clock (σ t)) l) ≡ with_dropped (idle σ l clock) (seven (standing_by σ l))
unfolding at
clock-counts σ l clock = let m = each _ (clock-moves σ l clock) in same-counts (search rules)

-- what a verdict is to the transactions of a list that stand so: nothing, a new one, or an action of an open one
pub data Acts (σ : Bits128 → Status) (l : List Bits128) : Verdict → Type 0 where
  unreadable : Acts σ l verdict.Unreadable
  refused : (c : ReturnCode) → Acts σ l (verdict.Refused c)
  signed : (o : SignedOrder) (added : Bool) → Acts σ l (verdict.Signed o added)
  opens : (t : Bits128) (k : Action) → Opens k → t.low ≡ length l → Acts σ l (verdict.Of t k)
  acts : (t : Bits128) (k : Action) → is_opening k ≡ false → In t l → {d : Direction} {s last : ℕ} →
      σ t ≡ Open d s last →
      Acts σ l (verdict.Of t k)

module _ (σ : Bits128 → Status) (l : List Bits128) (numbered : Numbered 0 l) (e : Exchange) where
  -- the number that a receipt ends: of the open downloads of its mailbox, all but its own
  abbrev pub EndsOthers : Verdict → ℕ → Type 0
  EndsOthers v n = (t : Bits128) → v ≡ verdict.Of t (action.Download down.Confirmed) →
      n ≡ others σ l e t (action.Download down.Confirmed)

  module _ (t : Bits128) (i : In t l) {d : Direction} {s last : ℕ} (z : σ t ≡ Open d s last) (n : ℕ) where
    abbrev Counted : Action → Type 0
    Counted k = seven (standing_by (then σ l e t k) l) ≡ action_counts k n (seven (standing_by σ l))

    abbrev Moved : Action → Type 0
    Moved k =
        Each (λ (way : ℕ). standing_by (then σ l e t k) l way + for 0 way 1 + for 0 way (others σ l e t k)
        ≡ standing_by σ l way + for (way_of (action_status k e (Open d s last))) way 1 + for 4 way (others σ l e t k))

    -- where nothing changes, nothing ends
    abbrev unchanged : ℕ
    unchanged = count_of (λ (x : Bits128). not (same_bits x t) && ends (σ x) (σ x)) l

    -- an action but a receipt changes no others; a receipt's number is that of the others that it ends
    settled : (k : Action) → is_opening k ≡ false → Moved k → unchanged ≡ 0 →
        (k ≡ action.Download down.Confirmed → n ≡ others σ l e t (action.Download down.Confirmed)) → Counted k
    unfolding at
    settled (action.Upload (up.Opened m)) o w q f = never (sym o)
    settled (action.Upload up.Took) o w q f = same-counts (search rules)
    settled (action.Upload up.TookLast) o w q f = same-counts (search rules)
    settled (action.Upload (up.Point m)) o w q f = same-counts (search rules)
    settled (action.Upload (up.Cancelled c)) o w q f = same-counts (search rules)
    settled (action.Download (down.Opened m)) o w q f = never (sym o)
    settled (action.Download (down.Delivered m)) o w q f = same-counts (search rules)
    settled (action.Download (down.SentAgain m)) o w q f = same-counts (search rules)
    settled (action.Download (down.Point m)) o w q f = same-counts (search rules)
    settled (action.Download down.Cancelled) o w q f = same-counts (search rules)
    settled (action.Download down.Confirmed) o w q f = let r = f refl in same-counts (search rules)
    settled (action.Download down.Declined) o w q f = same-counts (search rules)

    acted : (k : Action) → is_opening k ≡ false → EndsOthers (verdict.Of t k) n → Counted k
    acted k o f =
        settled k o (each _ (action-moves σ l e t k numbered i z))
        (count_none _ l (λ x j. rw (none-ends (σ x)) (and_no (not (same_bits x t))))) (λ y. f t (ap (verdict.Of t) y))

  -- a verdict moves them
  pub verdict-moves : {v : Verdict} → Acts σ l v → (n : ℕ) → EndsOthers v n →
      seven (standing_by (λ (x : Bits128). status_after x v e (σ x)) (l ++ opened_in v))
      ≡ verdict_counts v n (seven (standing_by σ l))
  unfolding at
  verdict-moves unreadable n f = rw append-nil
  verdict-moves (refused c) n f = rw append-nil
  verdict-moves (signed o added) n f = rw append-nil
  verdict-moves (opens t k o new) n f =
      let w = each _ (opening-moves σ l e t k numbered o new) in
      rw (opens-is o, opens-counted o n (seven (standing_by σ l))) (same-counts (search rules))
  verdict-moves (acts t k o i z) n f = rw (o, append-nil) (acted t i z n k o f)

-- the number that a receipt ends is read at a receipt answered 011000 alone
pub receipt-alone : (v : Verdict) (n m : ℕ) (c : Counts) →
    ((t : Bits128) → v ≡ verdict.Of t (action.Download down.Confirmed) → n ≡ m) →
    verdict_counts v n c ≡ verdict_counts v m c
receipt-alone verdict.Unreadable n m c same = refl
receipt-alone (verdict.Refused r) n m c same = refl
receipt-alone (verdict.Signed o added) n m c same = refl
receipt-alone (verdict.Of t (action.Upload a)) n m c same = refl
receipt-alone (verdict.Of t (action.Download (down.Opened k))) n m c same = refl
receipt-alone (verdict.Of t (action.Download (down.Delivered k))) n m c same = refl
receipt-alone (verdict.Of t (action.Download (down.SentAgain k))) n m c same = refl
receipt-alone (verdict.Of t (action.Download (down.Point k))) n m c same = refl
receipt-alone (verdict.Of t (action.Download down.Cancelled)) n m c same = refl
receipt-alone (verdict.Of t (action.Download down.Confirmed)) n m c same = rw (same t refl)
receipt-alone (verdict.Of t (action.Download down.Declined)) n m c same = refl

-- ---- the seven add up

-- what was opened stands in one of the seven ways
pub in-seven : (x : Status) → (x ≡ NotOpened → ⊥) → way_of x < count_size
in-seven NotOpened n = absurd (n refl)
in-seven (Open d s last) n = omega arith
in-seven Booked n = omega arith
in-seven Fetched n = omega arith
in-seven Skipped n = omega arith
in-seven EndedByReceipt n = omega arith
in-seven Cancelled n = omega arith
in-seven Dropped n = omega arith

one_way : (way : ℕ) → way < count_size → sum (seven (λ (other : ℕ). unit (eqb way other))) ≡ 1
one_way way h =
    eqb-true _ _ (every-below (λ (m : ℕ). eqb (sum (seven (λ (other : ℕ). unit (eqb m other)))) 1) count_size refl way h)

pub ways-add : (σ : Bits128 → Status) (l : List Bits128) → ((t : Bits128) → In t l → way_of (σ t) < count_size) →
    sum (seven (standing_by σ l)) ≡ length l
unfolding count_of
ways-add σ [] f = refl
ways-add σ (t ∷ l) f =
    let a = one_way (way_of (σ t)) (f t (here refl)) in let b = ways-add σ l (λ x i. f x (there i)) in omega arith

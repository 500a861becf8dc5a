-- Numbers held: an upload holds its number by requests, replies and clocks exactly where a place in use has it, and no two
-- do. By the invariant. Assumes nothing.
use Prim.Native.Nat.{ℕ, ◌<◌}
use mathlib.Core.Bool.{Bool, true, false, cond, not, ◌&&◌}
use mathlib.Core.List.{List}
use mathlib.Core.Logic.{inr}
use mathlib.Core.Path.{◌≡◌, refl, sym, ap, ◌∙◌}
use native.Mathlib.Omega.{arith}
use lib.Dec.{eqb}
use borrow.Author.Tests.{eqb-true, eq-eqb, ltb-true, lt-ltb, not-true}
use Rattle.frame_table.specs.declared.fields.Bits128.{Bits128}
use Rattle.octets.proofs.Tests.{never, and-true}
use Rattle.bank_state.specs.declared.state.Place.{Place}
use Rattle.bank_state.specs.declared.state.Use.{Use}
use Rattle.bank_state.specs.declared.state.Use.TheVariants as uses
use Rattle.bank_state.specs.Clock.{is_idle}
use Rattle.bank_state.specs.Limits.{place_count}
use Rattle.bank_state.specs.Search.{is_free, is_open, holds_number, find_number, is_number_held}
use Rattle.bank_state.specs.State.{BankState, no_place, place_at}
use Rattle.bank_state.specs.Store.{part_at}
use Rattle.bank_state.proofs.Rows.{first_passes}
use Rattle.message.specs.declared.directions.Direction.{Direction}
use Rattle.message.specs.declared.directions.Direction.TheVariants as direction
use Rattle.bank_admitted.proofs.Rows.{first-at-most}
use Rattle.bank_history.specs.History.{Exchange, BankCall, is_booking, ever, past_of}
use Rattle.bank_history.specs.FalseEconomies.{Next}
use Rattle.bank_history.specs.Invariant.{UsedTold, PlaceTold, Invariant}
use Rattle.bank_history.specs.ByReplies.{owner_of, order_of, standing}
use Rattle.bank_history.specs.Series.{is_uploads, is_holding, HeldBy, Held}
use Rattle.bank_history.specs.Status.{
  Status,
  NotOpened,
  Open,
  Booked,
  Fetched,
  Skipped,
  EndedByReceipt,
  Cancelled,
  Dropped,
  drop_idle,
  status,
  OpenAs,
  upload,
  download,
}
use Rattle.bank_history.proofs.ByReplies.{standing-is}
use Rattle.bank_history.proofs.Closed.{booked-status, status-booked}
use Rattle.bank_history.proofs.DropOrder.{owner-is, order_is}
use Rattle.bank_history.proofs.Keeps.{past-holds}
use Rattle.bank_history.proofs.NextCall.{judged_bank, clock-is, judged-holds}
use Rattle.bank_history.proofs.Statuses.{Told, open-shown, advanced-told, past-told}
use Rattle.bank_history.proofs.Theorems.{history-sound}

-- ---- how a transaction stands

-- what holds a number after the drops held it before
holds-before : (c : ℕ) (x : Status) → is_holding (drop_idle c x) ≡ true → is_holding x ≡ true
holds-before c NotOpened z = z
holds-before c (Open d s last) z = at (is_idle c last) z
  where
    at : (b : Bool) → is_holding (cond b Dropped (Open d s last)) ≡ true → is_uploads d ≡ true
    at true y = never y
    at false y = y
holds-before c Booked z = z
holds-before c Fetched z = z
holds-before c Skipped z = z
holds-before c EndedByReceipt z = z
holds-before c Cancelled z = z
holds-before c Dropped z = z

-- nothing is booked by the drops
booked-before : (c : ℕ) (x : Status) → drop_idle c x ≡ Booked → x ≡ Booked
booked-before c NotOpened z = z
booked-before c (Open d s last) z = absurd (at (is_idle c last) z)
  where
    at : (b : Bool) → cond b Dropped (Open d s last) ≡ Booked → ⊥
    at true y = let x : ◌≡◌ {A = ℕ} 0 1 = cc in omega arith
    at false y = let x : ◌≡◌ {A = ℕ} 0 1 = cc in omega arith
booked-before c Booked z = z
booked-before c Fetched z = z
booked-before c Skipped z = z
booked-before c EndedByReceipt z = z
booked-before c Cancelled z = z
booked-before c Dropped z = z

-- ---- the bank w after the history h, whose transactions stand as σ says

module _ (w : BankState) (h : List Exchange) (v : Invariant w h) where
  -- a place in use with the transaction t
  record In-use (t : Bits128) : Type 0 where
    place : ℕ
    inside : place < place_count
    used : is_free (place_at w.bank place).used ≡ false
    same : (place_at w.bank place).transaction ≡ t

  -- has the subscriber and the number of its opening
  abbrev Named : Place → Type 0
  Named p = (owner_of p.transaction h ≡ p.subscriber) × (order_of p.transaction h ≡ p.number)

  named_by : (p : Place) {size : ℕ} {bytes : List ℕ} → UsedTold h p.transaction p.subscriber p.number size bytes → Named p
  named_by p k = (
    owner-is p.transaction v.sound ∙ k.owner,
    order_is p.transaction v.sound k.opened ∙ k.order,
  )

  used-named : (i : ℕ) → i < place_count → is_free (place_at w.bank i).used ≡ false → Named (place_at w.bank i)
  used-named i inside used = at (place_at w.bank i).used used (v.places i inside)
    where
      at : (u : Use) → is_free u ≡ false → PlaceTold u h (place_at w.bank i) (part_at w.orders i) → Named (place_at w.bank i)
      at uses.Free f k = never (sym f)
      at uses.Open f k = named_by (place_at w.bank i) k.place
      at uses.Booked f k = named_by (place_at w.bank i) k.place

  -- no two have one subscriber and number
  one-in-use : {t u : Bits128} → In-use t → In-use u → owner_of t h ≡ owner_of u h → order_of t h ≡ order_of u h → t ≡ u
  one-in-use {t} {u} x y owner order =
      let f = used-named x.place x.inside x.used in
      let g = used-named y.place y.inside y.used in
      let place : x.place ≡ y.place =
      v.state.places_apart x.place y.place x.inside y.inside x.used y.used (inr (
        sym f.0 ∙ (ap (λ (i : Bits128). owner_of i h) x.same ∙ (owner ∙ (ap (λ (i : Bits128). owner_of i h) (sym y.same) ∙ g.0))),
        sym f.1 ∙ (ap (λ (i : Bits128). order_of i h) x.same ∙ (order ∙ (ap (λ (i : Bits128). order_of i h) (sym y.same) ∙ g.1))),
      )) in
      sym x.same ∙ (ap (λ (i : ℕ). (place_at w.bank i).transaction) place ∙ y.same)

  booked-in-use : (t : Bits128) → ever is_booking t h ≡ true → In-use t
  booked-in-use t z =
      let b = v.booked t z in
      record { place = b.place; inside = b.inside; used = ap is_free b.used; same = b.same }

  -- two booked uploads of one subscriber with one number are one
  pub booked-once : {t u : Bits128} → ever is_booking t h ≡ true → ever is_booking u h ≡ true → owner_of t h ≡ owner_of u h →
      order_of t h ≡ order_of u h → t ≡ u
  booked-once {t} {u} x y = one-in-use (booked-in-use t x) (booked-in-use u y)

  module _ (σ : Bits128 → Status) (told : Told w σ) (stays : (t : Bits128) → ever is_booking t h ≡ true → σ t ≡ Booked)
      (came : (t : Bits128) → σ t ≡ Booked → ever is_booking t h ≡ true) where
    -- what holds a number has a place in use
    open-in-use : (t : Bits128) {d : Direction} {s last : ℕ} → d ≡ direction.Upload → OpenAs w t d s last → In-use t
    open-in-use t z (upload u) =
        record { place = u.place; inside = u.inside; used = ap is_free u.used; same = u.transaction }
    open-in-use t z (download u) = absurd (let x : ◌≡◌ {A = ℕ} 0 1 = cc in omega arith)

    held-in-use : (t : Bits128) → is_holding (σ t) ≡ true → In-use t
    held-in-use t z = at (σ t) refl z
      where
        opened : (d : Direction) (s last : ℕ) → σ t ≡ Open d s last → is_uploads d ≡ true → In-use t
        opened direction.Upload s last y o = open-in-use t refl (open-shown told y)
        opened direction.Download s last y o = never o

        at : (x : Status) → σ t ≡ x → is_holding x ≡ true → In-use t
        at NotOpened y o = never o
        at (Open d s last) y o = opened d s last y o
        at Booked y o = booked-in-use t (came t y)
        at Fetched y o = never o
        at Skipped y o = never o
        at EndedByReceipt y o = never o
        at Cancelled y o = never o
        at Dropped y o = never o

    -- and what has a place in use holds one
    in-use-held : (i : ℕ) → i < place_count → is_free (place_at w.bank i).used ≡ false →
        is_holding (σ (place_at w.bank i).transaction) ≡ true
    in-use-held i inside used = at (place_at w.bank i).used refl used (v.places i inside)
      where
        at : (u : Use) → (place_at w.bank i).used ≡ u → is_free u ≡ false →
            PlaceTold u h (place_at w.bank i) (part_at w.orders i) →
            is_holding (σ (place_at w.bank i).transaction) ≡ true
        at uses.Free z f k = never (sym f)
        at uses.Open z f k = ap is_holding (told.places i inside (ap is_open z))
        at uses.Booked z f k = ap is_holding (stays (place_at w.bank i).transaction k.booked)

    pub one_holds : {t u : Bits128} → is_holding (σ t) ≡ true → is_holding (σ u) ≡ true → owner_of t h ≡ owner_of u h →
        order_of t h ≡ order_of u h → t ≡ u
    one_holds {t} {u} x y = one-in-use (held-in-use t x) (held-in-use u y)

    -- the bank finds a number held exactly where an upload holds it
    pub held_found : {s n : ℕ} (t : Bits128) → is_holding (σ t) ≡ true → owner_of t h ≡ s → order_of t h ≡ n →
        is_number_held s n w.bank ≡ true
    unfolding is_number_held find_number holds_number
    held_found {s} {n} t z owner order =
        let x = held-in-use t z in
        let p = place_at w.bank x.place in
        let f = used-named x.place x.inside x.used in
        let a : p.subscriber ≡ s = sym f.0 ∙ (ap (λ (i : Bits128). owner_of i h) x.same ∙ owner) in
        let b : p.number ≡ n = sym f.1 ∙ (ap (λ (i : Bits128). order_of i h) x.same ∙ order) in
        let passes : holds_number s n p ≡ true = rw (x.used, eq-eqb p.subscriber s a, eq-eqb p.number n b) in
        let long = v.state.sizes.places in
        let inside = x.inside in
        let first = first-at-most (holds_number s n) w.bank.places no_place x.place (omega arith) passes in
        lt-ltb (find_number s n w.bank) place_count (omega arith)

    pub found-held : {s n : ℕ} → is_number_held s n w.bank ≡ true →
        (t : Bits128) × (is_holding (σ t) ≡ true) × (owner_of t h ≡ s) × (order_of t h ≡ n)
    unfolding is_number_held find_number holds_number
    found-held {s} {n} z =
        let i = find_number s n w.bank in
        let p = place_at w.bank i in
        let inside : i < place_count = ltb-true i place_count z in
        let long = v.state.sizes.places in
        let passes : holds_number s n p ≡ true = first_passes (holds_number s n) w.bank.places no_place (omega arith) in
        let a = and-true (not (is_free p.used) && eqb p.subscriber s) (eqb p.number n) passes in
        let b = and-true (not (is_free p.used)) (eqb p.subscriber s) a.0 in
        let used = not-true (is_free p.used) b.0 in
        let f = used-named i inside used in (
          p.transaction,
          in-use-held i inside used,
          f.0 ∙ eqb-true p.subscriber s b.1,
          f.1 ∙ eqb-true p.number n a.1,
        )

-- ---- after a list of calls

pub single-held : (calls : List BankCall) (clock : ℕ) {s n : ℕ} {t u : Bits128} → HeldBy t s n clock (past_of calls).history →
    HeldBy u s n clock (past_of calls).history → t ≡ u
single-held calls clock {t = t} {u = u} x y =
    one_holds w h v (λ (i : Bits128). status i h) (past-told calls) (λ i. booked-status i calls) (λ i. status-booked i h)
    (now t x.holding) (now u y.holding) (x.owner ∙ sym y.owner) (x.order ∙ sym y.order)
  where
    w : BankState
    w = (past_of calls).bank_state

    h : List Exchange
    h = (past_of calls).history

    v : Invariant w h
    v = (past-holds calls).invariant

    now : (i : Bits128) → is_holding (drop_idle clock (standing i h)) ≡ true → is_holding (status i h) ≡ true
    now i z = ap is_holding (sym (standing-is i (history-sound calls))) ∙ holds-before clock (standing i h) z

-- ---- at the next call, clock and drops done

module _ {calls : List BankCall} {e : Exchange} (n : Next calls e) where
  abbrev h : List Exchange
  h = (past_of calls).history

  abbrev w : BankState
  w = judged_bank n

  abbrev stood : Bits128 → Status
  stood t = drop_idle w.bank.clock (status t h)

  told : Told w stood
  told =
      advanced-told n.input.time (past_of calls).bank_state (past-holds calls).invariant.state.sizes
      (λ (t : Bits128). status t h) (past-told calls)

  stays : (t : Bits128) → ever is_booking t h ≡ true → stood t ≡ Booked
  stays t z = ap (drop_idle w.bank.clock) (booked-status t calls z)

  came : (t : Bits128) → stood t ≡ Booked → ever is_booking t h ≡ true
  came t z = status-booked t h (booked-before w.bank.clock (status t h) z)

  stands-so : (t : Bits128) → drop_idle e.clock (standing t h) ≡ stood t
  stands-so t =
      ap (λ (c : ℕ). drop_idle c (standing t h)) (clock-is n)
      ∙ ap (drop_idle w.bank.clock) (standing-is t (history-sound calls))

  pub next-found : {s m : ℕ} → Held s m e.clock h → is_number_held s m w.bank ≡ true
  next-found (t, k) =
      held_found w h (judged-holds n) stood told stays came t (ap is_holding (sym (stands-so t)) ∙ k.holding) k.owner k.order

  pub next-held : {s m : ℕ} → is_number_held s m w.bank ≡ true → Held s m e.clock h
  next-held z =
      let (t, holds, owner, order) = found-held w h (judged-holds n) stood told stays came z in
      (t, record { owner = owner; order = order; holding = ap is_holding (stands-so t) ∙ holds })

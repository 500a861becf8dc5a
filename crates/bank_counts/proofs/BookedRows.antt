-- The book has as many places as accepted openings stand booked: booked places have their own transactions, each of an
-- accepted opening whose segment N was taken, and every such opening has its place.
use Prim.Native.Nat.{ℕ}
use mathlib.Core.Bool.{Bool, true}
use mathlib.Core.List.{List, Memᴰ as In}
use mathlib.Core.Logic.{inl}
use mathlib.Core.Path.{◌≡◌, refl, sym, ap, ◌∙◌, subst}
use native.Mathlib.Omega.{arith}
use lib.Dec.{eqb}
use Rattle.frame_table.specs.declared.fields.Bits128.{Bits128}
use Rattle.octets.proofs.Tests.{never, or_left}
use Rattle.bank_state.specs.declared.state.Place.{Place}
use Rattle.bank_state.specs.declared.state.Use.{Use}
use Rattle.bank_state.specs.declared.state.Use.TheVariants as uses
use Rattle.bank_state.specs.Rows.{count_of}
use Rattle.bank_state.specs.Search.{is_free, is_booked}
use Rattle.bank_state.specs.State.{BankState, no_place, place_at}
use Rattle.bank_state.specs.Store.{part_at}
use Rattle.bank_history.specs.History.{Exchange, BankCall, is_upload_opening, is_download_opening, ever, past_of}
use Rattle.bank_history.specs.Invariant.{Invariant, OrderTold, PlaceTold}
use Rattle.bank_history.specs.Status.{
  Status,
  NotOpened,
  Open,
  Booked,
  Fetched,
  Skipped,
  EndedByReceipt,
  Cancelled,
  Dropped,
  status,
  openings,
}
use Rattle.bank_history.proofs.Closed.{booked-status, status-booked}
use Rattle.bank_history.proofs.Drops.{listed, opened-numbered}
use Rattle.bank_history.proofs.Keeps.{past-holds}
use Rattle.bank_history.proofs.Positions.{ever-stands}
use Rattle.bank_counts.specs.Counts.{way_of}
use Rattle.bank_counts.proofs.Laws.{Apart, count-exact}
use Rattle.bank_counts.proofs.Rows.{ids, length_ids, in_ids, ids-in, ids-apart}

booked-way : (x : Status) → eqb (way_of x) 1 ≡ true → x ≡ Booked
booked-way NotOpened z = never z
booked-way (Open d s last) z = never z
booked-way Booked z = refl
booked-way Fetched z = never z
booked-way Skipped z = never z
booked-way EndedByReceipt z = never z
booked-way Cancelled z = never z
booked-way Dropped z = never z

is-booked : (u : Use) → is_booked u ≡ true → u ≡ uses.Booked
is-booked uses.Free z = never z
is-booked uses.Open z = never z
is-booked uses.Booked z = refl

module _ (calls : List BankCall) where
  abbrev w : BankState
  w = (past_of calls).bank_state

  abbrev h : List Exchange
  h = (past_of calls).history

  v : Invariant w h
  v = (past-holds calls).invariant

  abbrev held : Place → Bool
  held p = is_booked p.used

  abbrev place_id : Place → Bits128
  place_id p = p.transaction

  abbrev booked_ids : List Bits128
  booked_ids = ids held place_id no_place w.bank.places

  abbrev is_here : Bits128 → Bool
  is_here t = eqb (way_of (status t h)) 1

  -- an opened upload is one of the openings
  opened_in_lem : (i : ℕ) → OrderTold h (place_at w.bank i) (part_at w.orders i) →
      In (place_at w.bank i).transaction (openings h)
  opened_in_lem i o =
      let s = ever-stands is_upload_opening _ h o.place.opened in
      let a = s.3 in
      listed s.2
      (record {
        action = a.action;
        is = a.is;
        kind = or_left (is_upload_opening a.action) (is_download_opening a.action) a.kind;
      })

  -- what stands booked was opened as an upload
  pub booked-opened : (t : Bits128) → is_here t ≡ true → ever is_upload_opening t h ≡ true
  booked-opened t z =
      let b = v.booked t (status-booked t h (booked-way (status t h) z)) in
      let o : OrderTold h (place_at w.bank b.place) (part_at w.orders b.place) =
      subst (λ (u : Use). PlaceTold u h (place_at w.bank b.place) (part_at w.orders b.place)) b.used
      (v.places b.place b.inside) in
      ap (λ (x : Bits128). ever is_upload_opening x h) (sym b.same) ∙ o.place.opened

  inside : (t : Bits128) → In t booked_ids → In t (openings h) × (is_here t ≡ true)
  inside t j =
      let k = in_ids held place_id no_place w.bank.places j in
      let o : OrderTold h (place_at w.bank k.row) (part_at w.orders k.row) =
      subst (λ (u : Use). PlaceTold u h (place_at w.bank k.row) (part_at w.orders k.row))
      (is-booked (place_at w.bank k.row).used k.used)
      (v.places k.row (let l = v.state.sizes.places in omega arith)) in
      subst (λ (x : Bits128). In x (openings h) × (is_here x ≡ true)) k.same
      (opened_in_lem k.row o, ap (λ (x : Status). eqb (way_of x) 1) (booked-status _ calls o.booked))

  all : (t : Bits128) → In t (openings h) → is_here t ≡ true → In t booked_ids
  all t i z =
      let b = v.booked t (status-booked t h (booked-way (status t h) z)) in
      subst (λ (x : Bits128). In x booked_ids) b.same
      (ids-in held place_id no_place w.bank.places b.place
      (let l = v.state.sizes.places in let c = b.inside in omega arith) (ap is_booked b.used))

  apart : Apart booked_ids
  apart =
      ids-apart held place_id no_place w.bank.places
      (λ i j a b f g z. let l = v.state.sizes.places in
      v.state.places_apart i j (omega arith) (omega arith)
      (ap is_free (is-booked (place_at w.bank i).used f)) (ap is_free (is-booked (place_at w.bank j).used g))
      (inl z))

  pub booked-count : count_of held w.bank.places ≡ count_of is_here (openings h)
  booked-count =
      sym (length_ids held place_id no_place w.bank.places)
      ∙ count-exact (opened-numbered v.sound).0 is_here apart inside all

-- Laws of the records' rows: a row says its record, and a record's row is its numbers. Assumes nothing.
use Prim.Native.Nat.{ℕ, ◌+◌, ◌≤◌}
use mathlib.Core.Bool.{Bool, true, false, not}
use mathlib.Core.List.{List, ◌++◌}
use mathlib.Core.Path.{◌≡◌, refl, sym}
use native.Mathlib.Omega.{arith}
use lib.Dec.{eqb, ltb}
use lib.ListN.{length, get_or, take, drop}
use lib.Seq.{get_or-drop}
use borrow.Author.Tests.{eqb-true, eqb-false}
use Rattle.bank_state.specs.declared.clock.Ended.{Ended}
use Rattle.bank_state.specs.declared.state.Use.{Use}
use Rattle.bank_state.specs.declared.state.Use.TheVariants.{Free, Open, Booked}
use Rattle.bank_state.specs.declared.state.Place.{Place}
use Rattle.bank_state.specs.declared.state.Download.{Download}
use Rattle.bank_state.specs.State.{Nonce}
use Rattle.octets.proofs.Tests.{and-true}
use Rattle.bank_state.specs.Clock.{ends}
use Rattle.bank_state.specs.Limits.{window}
use Rattle.bank_state.specs.Search.{is_free, is_open}
use Rattle.bank_state.proofs.Tests.{not-ltb}
use Rattle.bank_rows.specs.Layout.{place_use, place_width, download_width, nonce_width, nonce_timestamp}
use Rattle.bank_rows.specs.Records.{use_of, number_of_use, place_of, place_row, download_of, download_row, nonce_of, nonce_row, stays_open, stays_remembered}
use Rattle.bank_rows.proofs.General.{take-listed}

-- ---- a place's use

pub use-back : (u : Use) → use_of (number_of_use u) ≡ u
use-back Free = refl
use-back Open = refl
use-back Booked = refl

use-at : (u : ℕ) (z o : Bool) → eqb u 0 ≡ z → eqb u 1 ≡ o → u ≤ 2 → number_of_use (use_of u) ≡ u
use-at u true o a b h = rw (eqb-true u 0 a)
use-at u false true a b h = rw (eqb-true u 1 b)
use-at u false false a b h =
    let p = eqb-false u 0 a in
    let q = eqb-false u 1 b in
    let e : u ≡ 2 = omega arith in
    rw e

pub use-number : (u : ℕ) → u ≤ 2 → number_of_use (use_of u) ≡ u
use-number u h = use-at u (eqb u 0) (eqb u 1) refl refl h

open_at : (u : ℕ) (z o : Bool) → eqb u 0 ≡ z → eqb u 1 ≡ o → is_open (use_of u) ≡ o
open_at u true true a b =
    let p = eqb-true u 0 a in
    let q = eqb-true u 1 b in
    absurd (omega arith)
open_at u true false a b = rw a
open_at u false true a b = rw (a, b)
open_at u false false a b = rw (a, b)

pub open_is : (u : ℕ) → is_open (use_of u) ≡ eqb u 1
open_is u = open_at u (eqb u 0) (eqb u 1) refl refl

free-at : (u : ℕ) (z o : Bool) → eqb u 0 ≡ z → eqb u 1 ≡ o → is_free (use_of u) ≡ z
free-at u true o a b = rw a
free-at u false true a b = rw (a, b)
free-at u false false a b = rw (a, b)

pub free-is : (u : ℕ) → is_free (use_of u) ≡ eqb u 0
free-is u = free-at u (eqb u 0) (eqb u 1) refl refl

-- ---- the numbers of a record

pub place-wide : (p : Place) → length (place_row p) ≡ place_width
place-wide p = refl

pub place-row : (s : List ℕ) → place_width ≤ length s → get_or s place_use 0 ≤ 2 → place_row (place_of s) ≡ take place_width s
place-row s h u = rw (use-number (get_or s place_use 0) u) (sym (take-listed place_width s h))

pub place-back : (p : Place) → true ≡ true → (r : List ℕ) → place_of (place_row p ++ r) ≡ p
place-back p e r = rw (use-back p.used)

pub download-wide : (e : Download) → length (download_row e) ≡ download_width
download-wide e = refl

pub download-row : (s : List ℕ) → download_width ≤ length s → download_row (download_of s) ≡ take download_width s
download-row s h = sym (take-listed download_width s h)

pub download-back : (e : Download) → e.used ≡ true → (r : List ℕ) → download_of (download_row e ++ r) ≡ e
download-back e u r = rw (← u)

pub nonce-wide : (e : Nonce) → length (nonce_row e) ≡ nonce_width
nonce-wide e = refl

pub nonce-row : (s : List ℕ) → nonce_width ≤ length s → nonce_row (nonce_of s) ≡ take nonce_width s
nonce-row s h = sym (take-listed nonce_width s h)

pub nonce-back : (e : Nonce) → e.used ≡ true → (r : List ℕ) → nonce_of (nonce_row e ++ r) ≡ e
nonce-back e u r = rw (← u)

-- a nonce stays remembered where its timestamp is not behind the clock
pub stays-remembered : (clock : ℕ) (area : List ℕ) (at : ℕ) {r : Bool} → r ≡ ltb (get_or area (at + nonce_timestamp) 0 + window) clock
    → stays_remembered clock (nonce_of (drop at area)) ≡ not r
stays-remembered clock area at e =
    rw (get_or-drop at area nonce_timestamp 0, e) (sym (not-ltb (get_or area (at + nonce_timestamp) 0 + window) clock))

-- what stays is in use
pub stays_open_lem : (which : Ended) (e : Download) → stays_open which e ≡ true → e.used ≡ true
stays_open_lem which e h = (and-true e.used (not (ends which e)) h).0

pub stays-kept : (clock : ℕ) (e : Nonce) → stays_remembered clock e ≡ true → e.used ≡ true
stays-kept clock e h = (and-true e.used _ h).0

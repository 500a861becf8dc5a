-- Open at the idle limit, gone after it: a transaction that is idle when a call comes is gone then.
use Prim.Native.Nat.{ℕ, ◌+◌, ◌<◌, max}
use mathlib.Core.Bool.{true, false}
use mathlib.Core.List.{List}
use mathlib.Core.Logic.{inl}
use mathlib.Core.Path.{◌≡◌, refl, sym, ap, ◌∙◌}
use native.Mathlib.Decide.{dec_lt}
use native.Mathlib.Omega.{arith}
use lib.ListN.{get_or-eq_default}
use Rattle.frame_table.specs.declared.fields.Bits128.{Bits128}
use Rattle.octets.proofs.Tests.{never}
use Rattle.bank_state.specs.declared.state.Download.{Download}
use Rattle.bank_state.specs.declared.state.Place.{Place}
use Rattle.bank_state.specs.Clock.{advanced}
use Rattle.bank_state.specs.Limits.{place_count, idle_limit}
use Rattle.bank_state.specs.Search.{is_free, is_open}
use Rattle.bank_state.specs.State.{BankState, no_place, place_at, download_at}
use Rattle.bank.specs.Call.{FrameInput}
use Rattle.bank_history.specs.History.{Exchange, Past}
use Rattle.bank_history.specs.Invariant.{Invariant, Holds}
use Rattle.bank_history.specs.Transactions.{answered, Gone, UploadAt, DownloadAt}
use Rattle.bank_history.proofs.Changes.{answered-gone}
use Rattle.bank_admitted.proofs.Clock.{advanced-not-idle, advanced-clock, advanced-openings, each-advanced, each-download}
use Rattle.bank_admitted.proofs.Held.{place-counted}
use Rattle.bank_admitted.proofs.Held.{downloads-apart}
use Rattle.bank_history.proofs.Downloads.{download-open}

module _ (time : ℕ) (w : BankState) (h : List Exchange) (v : Invariant w h) (t : Bits128) where
  -- a place in use then is as it was
  places-or-not : (i : ℕ) → is_free (place_at (advanced time w).bank i).used ≡ false →
      place_at (advanced time w).bank i ≡ place_at w.bank i
  places-or-not = each-advanced time w (λ (i : ℕ) (p : Place). is_free p.used ≡ false → p ≡ place_at w.bank i)
      (λ i f. never (sym f)) v.state.sizes (λ i _ _. refl)

  inside-if-used : (i : ℕ) → is_free (place_at w.bank i).used ≡ false → i < place_count
  inside-if-used i f = at (dec_lt i place_count)
    where
      at : Dec (i < place_count) → i < place_count
      at (yes l) = l
      at (no l) = never (sym f ∙ ap (λ (p : Place). is_free p.used)
          (get_or-eq_default w.bank.places no_place {n = i} (let z = v.state.sizes.places in omega arith)))

  -- an idle upload is dropped
  pub upload-dropped : (s k n last : ℕ) → UploadAt w t s k n last → last + idle_limit < max w.bank.clock time → Gone (advanced time w) t
  upload-dropped s k n last u idle = record { known = known; places = places; downloads = downloads }
    where
      used : is_free (place_at w.bank u.place).used ≡ false
      used = ap is_free u.used

      number : (place_at w.bank u.place).transaction.low ≡ t.low
      number = ap (λ (b : Bits128). b.low) u.transaction

      known : t.low < (advanced time w).bank.openings
      known =
          let a = place-counted w v.state u.place u.inside used in
          let b = advanced-openings time w in
          let c = number in
          omega arith

      places : (i : ℕ) → is_free (place_at (advanced time w).bank i).used ≡ false → (place_at (advanced time w).bank i).transaction ≡ t → ⊥
      places i f z =
          let e = places-or-not i f in
          let g : is_free (place_at w.bank i).used ≡ false = ap (λ (p : Place). is_free p.used) (sym e) ∙ f in
          let inside = inside-if-used i g in
          let a : (place_at w.bank i).transaction.low ≡ t.low =
          ap (λ (b : Bits128). b.low) (ap (λ (p : Place). p.transaction) (sym e) ∙ z) in
          let same : i ≡ u.place = v.state.places_apart i u.place inside u.inside g used (inl (a ∙ sym number)) in
          let now : place_at (advanced time w).bank i ≡ place_at w.bank u.place = e ∙ ap (place_at w.bank) same in
          let not_idle = (advanced-not-idle time w v.state.sizes).places i inside
          (ap (λ (p : Place). is_open p.used) now ∙ ap is_open u.used) in
          let l : (place_at (advanced time w).bank i).last ≡ last = ap (λ (p : Place). p.last) now ∙ u.fitting in
          let c = advanced-clock time w in
          omega arith

      downloads : (j : ℕ) → (download_at (advanced time w).bank j).used ≡ true → (download_at (advanced time w).bank j).transaction ≡ t → ⊥
      downloads = each-download time w (λ (e : Download). e.used ≡ true → e.transaction ≡ t → ⊥) (λ e. never e)
          (λ j _ e z. v.state.apart u.place j u.inside used e (number ∙ ap (λ (b : Bits128). b.low) (sym z)))

  -- an idle download is dropped
  pub download-dropped : (s d last : ℕ) → DownloadAt w t s d last → last + idle_limit < max w.bank.clock time → Gone (advanced time w) t
  download-dropped s d last u idle = record { known = known; places = places; downloads = downloads }
    where
      number : (download_at w.bank u.row).transaction.low ≡ t.low
      number = ap (λ (b : Bits128). b.low) u.transaction

      known : t.low < (advanced time w).bank.openings
      known =
          let a = (download-open w h v u.row u.used).0.counted in
          let b = advanced-openings time w in
          let c = number in
          omega arith

      places : (i : ℕ) → is_free (place_at (advanced time w).bank i).used ≡ false → (place_at (advanced time w).bank i).transaction ≡ t → ⊥
      places i f z =
          let e = places-or-not i f in
          let g : is_free (place_at w.bank i).used ≡ false = ap (λ (p : Place). is_free p.used) (sym e) ∙ f in
          let inside = inside-if-used i g in
          let a : (place_at w.bank i).transaction.low ≡ t.low =
          ap (λ (b : Bits128). b.low) (ap (λ (p : Place). p.transaction) (sym e) ∙ z) in
          v.state.apart i u.row inside g u.used (a ∙ sym number)

      still : (j : ℕ) → (download_at (advanced time w).bank j).used ≡ true → (download_at (advanced time w).bank j).transaction ≡ t →
          (download_at (advanced time w).bank j).last ≡ last
      still = each-download time w (λ (e : Download). e.used ≡ true → e.transaction ≡ t → e.last ≡ last) (λ e. never e)
          (λ j _ e z. ap (λ (m : ℕ). (download_at w.bank m).last)
          (downloads-apart w v.state j u.row e u.used (ap (λ (b : Bits128). b.low) z ∙ sym number)) ∙ u.fitting)

      downloads : (j : ℕ) → (download_at (advanced time w).bank j).used ≡ true → (download_at (advanced time w).bank j).transaction ≡ t → ⊥
      downloads j e z =
          let l = still j e z in
          let not_idle = (advanced-not-idle time w v.state.sizes).downloads j e in
          let c = advanced-clock time w in
          omega arith

-- a frame call that finds it idle leaves it gone, whatever its request
pub dropped-stays : (a : FrameInput) (p : Past) (t : Bits128) → Holds p → Gone (advanced a.time p.bank_state) t →
    Gone (answered a p).bank_state t
dropped-stays a p t holds gone = answered-gone t a p holds gone

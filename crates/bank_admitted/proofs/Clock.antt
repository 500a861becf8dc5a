-- The clock, the drops and the forgetting keep what the state may hold, and leave no open transaction idle.
use Prim.Native.Nat.{ℕ, zero, suc, ◌+◌, ◌≤◌, ◌<◌, max}
use mathlib.Core.Bool.{true, false, ◌&&◌}
use mathlib.Core.Path.{◌≡◌, refl, sym, ◌∙◌, subst}
use native.Mathlib.Decide.{dec_lt}
use native.Mathlib.Omega.{arith}
use lib.Dec.{eqb}
use lib.ListN.{replicate, get_or-eq_default}
use borrow.Author.Tests.{ltb-false, not-true}
use Rattle.octets.proofs.Tests.{never, and-true}
use Rattle.message.specs.Limits.{file_bytes}
use Rattle.message.proofs.Verdicts.{by-test, and-false}
use Rattle.bank_state.specs.declared.clock.Ended.TheVariants as ended
use Rattle.bank_state.specs.declared.state.Download.{Download}
use Rattle.bank_state.specs.declared.state.Place.{Place}
use Rattle.bank_state.specs.Clock.{is_idle, freed, drop_upload, drop_uploads, ends, forget, at_clock, advanced}
use Rattle.bank_state.specs.Limits.{place_count, idle_limit}
use Rattle.bank_state.specs.Search.{is_open, open_count, open_count_of}
use Rattle.bank_state.specs.State.{BankState, bank_state, no_place, no_download, place_at, download_at, file_length}
use Rattle.bank_state.specs.Store.{zeroed}
use Rattle.bank_state.proofs.Stores.{length-zeroed, zeroed-same, zeroed-other}
use Rattle.bank_state.proofs.Drops.{
  length-forget,
  each-end_downloads,
  is_idle_place,
  advanced-at-clock,
  Sized,
  advanced-sized,
  Spot,
  advanced-spot,
}
use Rattle.bank_admitted.specs.State.{mailbox_file, Sizes, StateHolds, NoneIdle}
use Rattle.bank_admitted.proofs.Rows.{count-set-le}
use Rattle.bank_admitted.proofs.Ahead.{kept-holds, ahead-stays}
use Rattle.bank_admitted.proofs.Nonces.{nonces-later}
use Rattle.bank_admitted.proofs.PlaceChange.{place-change}
use Rattle.bank_admitted.proofs.Downloads.{ended-step}

-- ---- a later clock

-- the state at a later clock, but for its uploads
pub at-clock : (c : ℕ) (w : BankState) → w.bank.clock ≤ c → StateHolds w →
    StateHolds (bank_state (at_clock c w.bank) w.orders w.mailboxes)
unfolding at_clock mailbox_file file_length
at-clock c w l v =
    ended-step w v (ended.Idle c) c (forget c w.bank.nonces) w.bank.files w.mailboxes l (λ i u k. refl)
    (length-forget c w.bank.nonces) (nonces-later w.bank.clock c w.bank.nonces v.sizes.nonces v.nonces)
    v.sizes.files v.sizes.mailboxes v.mailboxes_hold

-- ---- the drops

pub freed-keeps : (i : ℕ) (w : BankState) → i < place_count → StateHolds w → StateHolds (freed i w)
unfolding freed open_count open_count_of
freed-keeps i w inside v =
    place-change w i no_place w.bank.openings w.bank.series w.bank.nonces (zeroed w.orders i) v (record {
      bytes = replicate file_bytes 0;
      inside = inside;
      stored = length-zeroed w.orders i v.sizes.orders inside ∙ v.sizes.orders;
      here = zeroed-same w.orders i v.sizes.orders inside;
      elsewhere = zeroed-other w.orders i v.sizes.orders inside;
      remembered = v.sizes.nonces;
      memory = v.nonces;
      grow = omega arith;
      numbers = v.numbers;
      counters = v.sizes.series;
      series_hold = kept-holds w.bank.openings i no_place v.series
          (ahead-stays w.bank.series (place_at w.bank i) no_place (λ f. never (sym f)));
      new = record { empty = refl; zeros = refl };
      order = λ f. never (sym f);
      apart_place = λ j a n f. never (sym f);
      apart_download = λ j f. never (sym f);
      open_all = let m = count-set-le (λ (r : Place). is_open r.used) w.bank.places i no_place no_place (λ z. never z) in omega
          (arith, v.open_all);
      open_of = λ s. let m = count-set-le (λ (r : Place). is_open r.used && eqb r.subscriber s) w.bank.places i no_place no_place
          (λ z. never z) in omega (arith, v.open_of s);
    })

drop_keeps : (i : ℕ) (w : BankState) → i < place_count → StateHolds w → StateHolds (drop_upload i w)
unfolding drop_upload
drop_keeps i w inside v =
    by-test StateHolds (is_open (place_at w.bank i).used && is_idle w.bank.clock (place_at w.bank i).last)
    (λ _. freed-keeps i w inside v) (λ _. v)

drops-keep : (n : ℕ) (w : BankState) → n ≤ place_count → StateHolds w → StateHolds (drop_uploads n w)
unfolding drop_uploads
drops-keep zero w l v = v
drops-keep (suc n) w l v = drop_keeps n (drop_uploads n w) (omega arith) (drops-keep n w (omega arith) v)

pub advanced-keeps : (time : ℕ) (w : BankState) → StateHolds w → StateHolds (advanced time w)
unfolding advanced
advanced-keeps time w v = drops-keep place_count _ (omega arith) (at-clock (max w.bank.clock time) w (omega arith) v)

-- ---- what the clock leaves

-- the lengths, as the laws of bank_state ask for them
pub sized : {w : BankState} → Sizes w → Sized w
sized s = record {
  places = s.places;
  downloads = s.downloads;
  nonces = s.nonces;
  files = s.files;
  series = s.series;
  orders = s.orders;
  mailboxes = s.mailboxes;
}

module _ (time : ℕ) (w : BankState) where
  pub advanced-clock : (advanced time w).bank.clock ≡ max w.bank.clock time
  advanced-clock = (advanced-at-clock time w).clock

  pub advanced-openings : (advanced time w).bank.openings ≡ w.bank.openings
  advanced-openings = (advanced-at-clock time w).openings

  -- "Putting a file ..." and 011000 alone change a mailbox
  pub advanced-mailbox : (m : ℕ) → mailbox_file (advanced time w) m ≡ mailbox_file w m
  unfolding mailbox_file file_length
  advanced-mailbox m = let s = advanced-at-clock time w in rw (s.files, s.mailboxes)

  -- what holds of the free record and of each download that is not idle holds of each download then
  pub each-download : (P : Download → Type 0) → P no_download →
      ((j : ℕ) → is_idle (max w.bank.clock time) (download_at w.bank j).last ≡ false → P (download_at w.bank j)) →
      (j : ℕ) → P (download_at (advanced time w).bank j)
  unfolding ends
  each-download P free old j =
      let c = max w.bank.clock time in
      rw (advanced-at-clock time w).downloads
      (each-end_downloads P free (ended.Idle c) w.bank.downloads
      (λ i _ e. old i (not-true _ (and-true (download_at w.bank i).used _ e).1)) j)

  -- what holds of the free place and of each place that is not idle holds of each place then
  pub each-advanced : (P : ℕ → Place → Type 0) → ((i : ℕ) → P i no_place) → Sizes w →
      ((i : ℕ) → is_idle_place (max w.bank.clock time) (place_at w.bank i) ≡ false → P i (place_at w.bank i)) →
      (i : ℕ) → P i (place_at (advanced time w).bank i)
  each-advanced P free s old i = at (dec_lt i place_count)
    where
      at : Dec (i < place_count) → P i (place_at (advanced time w).bank i)
      at (yes l) =
          subst (λ (x : Spot). P i x.0) (sym (advanced-spot time w (sized s) i l))
          (by-test (λ (x : Spot). P i x.0) (is_idle_place (max w.bank.clock time) (place_at w.bank i)) (λ _. free i) (old i))
      at (no l) =
          let n = (advanced-sized time w (sized s)).places in
          rw (get_or-eq_default (advanced time w).bank.places no_place {n = i} (omega arith)) (free i)

  -- no open transaction is idle then
  pub advanced-not-idle : Sizes w → NoneIdle (advanced time w)
  unfolding is_idle
  advanced-not-idle s = rw advanced-clock (record { places = λ i _. places i; downloads = downloads })
    where
      c : ℕ
      c = max w.bank.clock time

      places : (i : ℕ) → is_open (place_at (advanced time w).bank i).used ≡ true → c ≤ (place_at (advanced time w).bank i).last + idle_limit
      places = each-advanced (λ (i : ℕ) (r : Place). is_open r.used ≡ true → c ≤ r.last + idle_limit) (λ i z. never z) s
          (λ i e u. ltb-false _ _ (and-false (is_open (place_at w.bank i).used) _ e u))

      downloads : (j : ℕ) → (download_at (advanced time w).bank j).used ≡ true → c ≤ (download_at (advanced time w).bank j).last + idle_limit
      downloads = each-download (λ (r : Download). r.used ≡ true → c ≤ r.last + idle_limit) (λ z. never z) (λ j e _. ltb-false _ _ e)

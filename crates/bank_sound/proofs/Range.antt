-- A bank in range has room for each segment, and stays in range when the clock is set: places are freed, downloads end,
-- and the files stay. Assumes nothing.
use Prim.Native.Nat.{ℕ, zero, suc, max, ◌+◌, ◌*◌, ◌≤◌, ◌<◌}
use mathlib.Core.Bool.{Bool, true, false, cond}
use mathlib.Core.List.{List, [], ◌∷◌}
use mathlib.Core.Path.{◌≡◌, refl, subst}
use native.Mathlib.Omega.{arith}
use lib.ListN.{get_or, set, replicate}
use Rattle.octets.proofs.Tests.{never}
use Rattle.message.specs.Limits.{file_bytes, segment_bytes, max_segments, subscribers}
use Rattle.message.specs.Segments.{segments_of}
use Rattle.bank_state.specs.declared.clock.Ended.{Ended}
use Rattle.bank_state.specs.declared.clock.Ended.TheVariants.{Idle}
use Rattle.bank_state.specs.State.{Bank}
use Rattle.bank_state.specs.declared.state.Download.{Download}
use Rattle.bank_state.specs.declared.state.Place.{Place}
use Rattle.bank_state.specs.Clock.{freed, drop_upload, drop_uploads, end_downloads, at_clock, advanced}
use Rattle.bank_state.specs.Limits.{place_count, all_signers}
use Rattle.bank_state.specs.Search.{is_open}
use Rattle.bank_state.specs.State.{
  BankState,
  bank_state,
  fresh,
  no_place,
  no_download,
  with_downloads,
  with_place,
  place_at,
  download_at,
  file_length,
}
use Rattle.bank_state.proofs.Drops.{is_idle_place, each-end_downloads}
use Rattle.bank_rows.specs.Layout.{state_size}
use Rattle.bank_sound.specs.Sound.{is_sound, InRange}
use Rattle.bank_rows.specs.Rows.{all_below}
use Rattle.bank_rows.proofs.State.{fresh-rows}
use Rattle.bank_sound.proofs.Test.{sound-range}

-- all zeros pass the test, and a fresh bank is in range
pub zeros-sound : is_sound (replicate state_size 0) ≡ true
unfolding is_sound all_below
zeros-sound = refl

pub fresh-range : InRange fresh
fresh-range = subst InRange fresh-rows (sound-range (replicate state_size 0) zeros-sound)

-- what holds of a free place and of each place holds of each after one is freed
module _ (P : Place → Type 0) (none : P no_place) where
  freed-each : (l : List Place) (i j : ℕ) → P (get_or l j no_place) → P (get_or (set l i no_place) j no_place)
  freed-each [] i j p = p
  freed-each (x ∷ l) zero zero p = none
  freed-each (x ∷ l) zero (suc j) p = p
  freed-each (x ∷ l) (suc i) zero p = p
  freed-each (x ∷ l) (suc i) (suc j) p = freed-each l i j p

module _ {b : Bank} (r : InRange b) where
  -- an open upload's place has room for a segment more
  pub upload-room : (i n : ℕ) → is_open (place_at b i).used ≡ true → n ≤ segment_bytes
      → (place_at b i).length + n ≤ file_bytes
  upload-room i n o h = omega (arith, r.few i o, r.below i o, r.largest i o)

  pub freed-range : (i : ℕ) → InRange (with_place i no_place b)
  freed-range i = record {
    files = r.files;
    lengths = λ j h. freed-each (λ (p : Place). p.length ≤ file_bytes) (omega arith) b.places i j (r.lengths j h);
    signers = λ j h. freed-each (λ (p : Place). p.signers ≤ all_signers) (omega arith) b.places i j (r.signers j h);
    few = each (λ (p : Place). p.segments ≤ max_segments) r.few;
    below = each (λ (p : Place). p.taken < p.segments) r.below;
    largest = each (λ (p : Place). p.length ≤ p.taken * segment_bytes) r.largest;
    known = r.known;
    most = r.most;
    within = r.within;
  }
    where
      each : (P : Place → Type 0) → ((j : ℕ) → is_open (place_at b j).used ≡ true → P (place_at b j)) → (j : ℕ) →
          let p = place_at (with_place i no_place b) j in
          is_open p.used ≡ true → P p
      each P f j = freed-each (λ (p : Place). is_open p.used ≡ true → P p) never b.places i j (f j)

  pub ended-range : (which : Ended) → InRange (with_downloads (end_downloads which b.downloads) b)
  ended-range which = record {
    files = r.files;
    lengths = r.lengths;
    signers = r.signers;
    few = r.few;
    below = r.below;
    largest = r.largest;
    known = each (λ (e : Download). 1 ≤ e.subscriber) r.known;
    most = each (λ (e : Download). e.subscriber ≤ subscribers) r.most;
    within = each (λ (e : Download). e.delivered ≤ segments_of (file_length e.subscriber b.files)) r.within;
  }
    where
      each : (P : Download → Type 0) → ((i : ℕ) → (download_at b i).used ≡ true → P (download_at b i)) → (i : ℕ) →
          let e = get_or (end_downloads which b.downloads) i no_download in
          e.used ≡ true → P e
      each P f = each-end_downloads (λ (e : Download). e.used ≡ true → P e) never which b.downloads (λ i h k. f i)

  pub at-clock-range : (clock : ℕ) → InRange (at_clock clock b)
  unfolding at_clock
  at-clock-range clock =
      let e = ended-range (Idle clock) in
      record {
        files = e.files;
        lengths = e.lengths;
        signers = e.signers;
        few = e.few;
        below = e.below;
        largest = e.largest;
        known = e.known;
        most = e.most;
        within = e.within;
      }

-- the drops
either : {A : Type 0} (P : A → Type 0) (t : Bool) {x y : A} → P x → P y → P (cond t x y)
either P true p q = p
either P false p q = q

drops-range : (n : ℕ) (w : BankState) → InRange w.bank → InRange (drop_uploads n w).bank
unfolding drop_uploads drop_upload freed
drops-range zero w r = r
drops-range (suc n) w r =
    let v = drop_uploads n w in
    let k = drops-range n w r in
    either (λ (u : BankState). InRange u.bank) (is_idle_place v.bank.clock (place_at v.bank n))
    {x = freed n v} {y = v} (freed-range k n) k

-- "A call first sets the clock": what it leaves is in range
pub advanced-range : (time : ℕ) (w : BankState) → InRange w.bank → InRange (advanced time w).bank
unfolding advanced
advanced-range time w r =
    let c = max w.bank.clock time in
    drops-range place_count (bank_state (at_clock c w.bank) w.orders w.mailboxes) (at-clock-range r c)

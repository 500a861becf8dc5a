-- The clock, the drops and the forgetting keep the invariant.
use Prim.{tt}
use Prim.Native.Nat.{ℕ, zero, suc, ◌≤◌, ◌<◌, max}
use mathlib.Core.Bool.{true, false, ◌&&◌}
use mathlib.Core.List.{List}
use mathlib.Core.Path.{◌≡◌, refl, sym, ap, ◌∙◌}
use native.Mathlib.Omega.{arith}
use lib.ListN.{replicate}
use Rattle.octets.proofs.Tests.{never, and-true}
use Rattle.message.specs.Limits.{file_bytes}
use Rattle.message.proofs.Verdicts.{by-test}
use Rattle.bank_state.specs.declared.clock.Ended.TheVariants as ended
use Rattle.bank_state.specs.declared.state.Download.{Download}
use Rattle.bank_state.specs.declared.state.Use.{Use}
use Rattle.bank_state.specs.declared.state.Use.TheVariants.{Free, Open, Booked}
use Rattle.bank_state.specs.Clock.{is_idle, freed, drop_upload, drop_uploads, at_clock, advanced}
use Rattle.bank_state.specs.Limits.{place_count}
use Rattle.bank_state.specs.Search.{is_open, is_booked}
use Rattle.bank_state.specs.State.{BankState, bank_state, no_place, place_at, file_length}
use Rattle.bank_state.specs.Store.{zeroed}
use Rattle.bank_state.proofs.Stores.{zeroed-same, zeroed-other}
use Rattle.bank_state.proofs.Drops.{each-end_downloads}
use Rattle.bank_admitted.specs.State.{mailbox_file}
use Rattle.bank_admitted.proofs.Clock as admitted
use Rattle.bank_verdicts.specs.Refusals.{find_order}
use Rattle.bank_history.proofs.Signatures.{unbooked-signers}
use Rattle.bank_history.specs.History.{Exchange}
use Rattle.bank_history.specs.Invariant.{DownloadTold, Invariant}
use Rattle.bank_history.proofs.Memory.{memory-later}
use Rattle.bank_history.proofs.Places.{places-told}
use Rattle.bank_history.proofs.Uploads.{booked-at, still-booked}

-- the state at a later clock, but for its uploads
at-clock : (c : ℕ) (w : BankState) (h : List Exchange) → w.bank.clock ≤ c → Invariant w h →
    Invariant (bank_state (at_clock c w.bank) w.orders w.mailboxes) h
unfolding at_clock mailbox_file file_length find_order
at-clock c w h l v = record {
  state = admitted.at-clock c w l v.state;
  counted = v.counted;
  series = v.series;
  places = v.places;
  downloads = each-end_downloads (λ (r : Download). DownloadTold r.used h (mailbox_file w r.subscriber) r) tt (ended.Idle c)
      w.bank.downloads (λ j _ g. v.downloads j);
  memory = memory-later w.bank.clock c h l w.bank.nonces v.state.sizes.nonces v.memory;
  signers = v.signers;
  known = v.known;
  booked = λ t e. booked-at w (bank_state (at_clock c w.bank) w.orders w.mailboxes) t (v.booked t e) refl;
  sound = v.sound;
}

freed-keeps : (i : ℕ) (w : BankState) (h : List Exchange) → i < place_count → is_open (place_at w.bank i).used ≡ true → Invariant w h →
    Invariant (freed i w) h
unfolding freed mailbox_file file_length find_order
freed-keeps i w h inside opened v = record {
  state = admitted.freed-keeps i w inside v.state;
  counted = v.counted;
  series = v.series;
  places = places-told h w i no_place (zeroed w.orders i) (replicate file_bytes 0) v.state.sizes.places inside
      (zeroed-same w.orders i v.state.sizes.orders inside) (zeroed-other w.orders i v.state.sizes.orders inside) tt
      (λ j a n. v.places j a);
  downloads = v.downloads;
  memory = v.memory;
  signers = λ o n. unbooked-signers o n w.bank.places i no_place (let l = v.state.sizes.places in omega arith)
      (unbooked (place_at w.bank i).used opened) refl ∙ v.signers o n;
  known = v.known;
  booked = λ t g. still-booked w i no_place (freed i w) refl open-not-booked t (v.booked t g);
  sound = v.sound;
}
  where
    unbooked : (u : Use) → is_open u ≡ true → is_booked u ≡ false
    unbooked Free e = refl
    unbooked Open e = refl
    unbooked Booked e = never e

    open-not-booked : (place_at w.bank i).used ≡ Booked → ⊥
    open-not-booked e = never (sym (ap is_open e) ∙ opened)

drop_keeps : (i : ℕ) (w : BankState) (h : List Exchange) → i < place_count → Invariant w h → Invariant (drop_upload i w) h
unfolding drop_upload
drop_keeps i w h inside v =
    by-test (λ (z : BankState). Invariant z h) (is_open (place_at w.bank i).used && is_idle w.bank.clock (place_at w.bank i).last)
    (λ e. freed-keeps i w h inside (and-true (is_open (place_at w.bank i).used) _ e).0 v) (λ _. v)

drops-keep : (n : ℕ) (w : BankState) (h : List Exchange) → n ≤ place_count → Invariant w h → Invariant (drop_uploads n w) h
unfolding drop_uploads
drops-keep zero w h l v = v
drops-keep (suc n) w h l v = drop_keeps n (drop_uploads n w) h (omega arith) (drops-keep n w h (omega arith) v)

pub advanced-keeps : (time : ℕ) (w : BankState) (h : List Exchange) → Invariant w h → Invariant (advanced time w) h
unfolding advanced
advanced-keeps time w h v = drops-keep place_count _ h (omega arith) (at-clock (max w.bank.clock time) w h (omega arith) v)

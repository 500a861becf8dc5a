-- A fresh session is one that a session may be: the fresh bank, stores of zeros, and a journal without events.
use Prim.Native.Nat.{ℕ, ◌+◌, ◌-◌, ◌*◌, ◌≤◌, ◌<◌}
use mathlib.Core.Bool.{true}
use mathlib.Core.List.{List, [], ◌++◌}
use mathlib.Core.Path.{◌≡◌, refl, sym, ap, ◌∙◌}
use native.Mathlib.Omega.{arith}
use lib.ListN.{get_or, take, drop, replicate, length-replicate, get_or-replicate, replicate-append-replicate}
use lib.Seq.{take_at, drop_at}
use Rattle.octets.proofs.Tests.{never}
use Rattle.message.specs.Limits.{file_bytes}
use Rattle.journal.specs.Events.{record_count, no_event}
use Rattle.journal.specs.Places.{used_after}
use Rattle.journal.specs.Row.{Journal, empty_row}
use Rattle.journal.proofs.Bounds.{used-below}
use Rattle.bank_state.specs.declared.state.Download.{Download}
use Rattle.bank_state.specs.declared.state.Place.{Place}
use Rattle.bank_state.specs.Limits.{place_count, nonce_count, store_bytes}
use Rattle.bank_state.specs.Rows.{count_of}
use Rattle.bank_state.specs.Search.{is_free, is_open, open_count, open_count_of}
use Rattle.bank_state.specs.State.{BankState, Nonce, bank_state, no_place, no_download, no_nonce, fresh, place_at, download_at}
use Rattle.bank_state.specs.Store.{part_at}
use Rattle.bank_admitted.specs.Packed.{rest}
use Rattle.bank_admitted.specs.State.{end, total, is_ahead, chosen_ahead, StateHolds, NoneIdle}
use Rattle.bank_admitted.specs.Session.{SessionHolds}
use Rattle.bank_admitted.proofs.Rows.{get_d-free, free-replicate}

-- "Fresh means clock 0, no opening accepted, nothing open, booked or remembered", and all lent bytes are 0
abbrev pub fresh_state : BankState
fresh_state = bank_state fresh (replicate store_bytes 0) (replicate store_bytes 0)

abbrev pub no_events : Journal
no_events = record { events = 0; row = empty_row }

part-of-same : {A : Type 0} (a : A) (k n m : ℕ) → m + n ≤ k → take n (drop m (replicate k a)) ≡ replicate n a
part-of-same {A} a k n m h =
    let r : ℕ = k - (m + n) in
    let e : k ≡ m + (n + r) = omega arith in
    let split : replicate k a ≡ replicate m a ++ (replicate n a ++ replicate r a) =
    ap (λ (z : ℕ). replicate z a) e
    ∙ (sym (replicate-append-replicate m (n + r) a)
    ∙ ap (λ (l : List A). replicate m a ++ l) (sym (replicate-append-replicate n r a))) in
    ap (λ (l : List A). take n (drop m l)) split
    ∙ (ap (take n) (drop_at (replicate m a) (replicate n a ++ replicate r a) m (length-replicate m a))
    ∙ take_at (replicate n a) (replicate r a) n (length-replicate n a))

zeros-part : (i : ℕ) → i < place_count → part_at (replicate store_bytes 0) i ≡ replicate file_bytes 0
unfolding part_at
zeros-part i a = part-of-same {A = ℕ} 0 store_bytes file_bytes (i * file_bytes) (omega arith)

pub fresh-place : (i : ℕ) → place_at fresh i ≡ no_place
unfolding fresh
fresh-place = get_d-free no_place place_count

pub fresh-download : (j : ℕ) → download_at fresh j ≡ no_download
unfolding fresh
fresh-download = get_d-free no_download place_count

fresh-nonce : (i : ℕ) → get_or fresh.nonces i no_nonce ≡ no_nonce
unfolding fresh
fresh-nonce = get_d-free no_nonce nonce_count

pub fresh-state : StateHolds fresh_state
unfolding fresh total is_ahead chosen_ahead open_count open_count_of count_of
fresh-state = record {
  sizes = record {
    places = refl;
    downloads = refl;
    nonces = refl;
    files = refl;
    series = refl;
    orders = length-replicate {A = ℕ} store_bytes 0;
    mailboxes = length-replicate {A = ℕ} store_bytes 0;
  };
  numbers = omega arith;
  series = record { limited = λ i _. rw (get_d-free {A = ℕ} 0 place_count i) (omega arith); counted = omega arith };
  orders = λ i a f. never (sym f ∙ ap (λ (p : Place). is_free p.used) (fresh-place i));
  places = λ i a. rw (fresh-place i) (record { empty = refl; zeros = zeros-part i a });
  downloads = λ j. rw (fresh-download j) refl;
  mailboxes_hold = λ i a. rw (get_or-replicate {A = ℕ} place_count i 0 0 a) (record { room = omega arith; zeros = zeros-part i a });
  places_apart = λ i j a b f. never (sym f ∙ ap (λ (p : Place). is_free p.used) (fresh-place i));
  apart = λ i j a f. never (sym f ∙ ap (λ (p : Place). is_free p.used) (fresh-place i));
  in_order = rest (free-replicate no_download place_count);
  nonces = record { first = []; used = end; rows = refl };
  open_all = omega arith;
  open_of = λ s. omega arith;
}

pub fresh-not-idle : NoneIdle fresh_state
fresh-not-idle = record {
  places = λ i a f. never (sym (ap (λ (p : Place). is_open p.used) (fresh-place i)) ∙ f);
  downloads = λ j f. never (sym (ap (λ (e : Download). e.used) (fresh-download j)) ∙ f);
}

nonce-unused : (i : ℕ) → (get_or fresh.nonces i no_nonce).used ≡ true → ⊥
nonce-unused i u = never (sym (ap (λ (e : Nonce). e.used) (fresh-nonce i)) ∙ u)

no_record : (i : ℕ) → i < used_after 0 → ⊥
no_record i h = let z = used-below 0 (omega arith) in omega arith

pub fresh_holds : SessionHolds fresh_state no_events
unfolding fresh count_of empty_row
fresh_holds = record {
  state = fresh-state;
  idle = fresh-not-idle;
  clock = omega arith;
  nonces = record {
    each = λ i u. absurd (nonce-unused i u);
    apart = λ i j u. absurd (nonce-unused i u);
  };
  places = λ i _. rw (fresh-place i) (record { high = omega arith; low = omega arith });
  downloads = λ i. rw (fresh-download i) (record { high = omega arith; low = omega arith });
  journal = record {
    long = length-replicate record_count no_event;
    each = λ i l. absurd (no_record i l);
    numbered = λ i l. absurd (no_record i l);
    rising = λ i l. absurd (no_record _ l);
    unused = λ i _. get_d-free no_event record_count i;
  };
  events = omega arith;
}

-- What a bank in which one place has changed may hold, from what is new about that place.
use Prim.Native.Nat.{ℕ, ◌≤◌, ◌<◌}
use mathlib.Core.Bool.{true, false}
use mathlib.Core.List.{List}
use mathlib.Core.Logic.{inl, inr}
use mathlib.Core.Path.{◌≡◌, refl, sym, ◌∙◌}
use native.Mathlib.Omega.{arith}
use lib.ListN.{length, get_or, set, length-set}
use Rattle.bank_state.specs.declared.state.Place.{Place}
use Rattle.bank_state.specs.Limits.{place_count, store_bytes, nonce_count, max_open, max_open_per_subscriber, max_openings, series_limit}
use Rattle.bank_state.specs.Search.{is_free, open_count, open_count_of}
use Rattle.bank_state.specs.State.{Nonce, BankState, bank_state, no_place, place_at, download_at, file_length}
use Rattle.bank_state.specs.Store.{part_at}
use Rattle.bank_admitted.specs.State.{mailbox_file, PlaceHolds, SeriesHold, NoncesHold, Alike, StateHolds}
use Rattle.bank_admitted.proofs.Rows.{each_set}
use Rattle.bank_admitted.proofs.Parts.{place-later, download-later}

pub alike-sym : (p r : Place) → Alike p r → Alike r p
alike-sym p r (inl e) = inl (sym e)
alike-sym p r (inr (s, n)) = inr (sym s, sym n)

-- the bank with place i changed, and with another number of openings, other series and nonces and another store of the
-- places
abbrev pub changed_at : ℕ → Place → ℕ → List ℕ → List Nonce → List ℕ → BankState → BankState
changed_at i p openings series nonces orders w =
    bank_state
    (record {
      clock = w.bank.clock;
      openings = openings;
      series = series;
      places = set w.bank.places i p;
      downloads = w.bank.downloads;
      nonces = nonces;
      files = w.bank.files;
    })
    orders
    w.mailboxes

module _ (w : BankState) (i : ℕ) (p : Place) (o : ℕ) (series : List ℕ) (nonces : List Nonce) (orders : List ℕ) where
  -- what is new about the place, and what is not about the others
  pub record PlaceChange : Type 0 where
    pub bytes : List ℕ
    pub inside : i < place_count
    pub stored : length orders ≡ store_bytes
    pub here : part_at orders i ≡ bytes
    pub elsewhere : (j : ℕ) → (j ≡ i → ⊥) → part_at orders j ≡ part_at w.orders j
    pub remembered : length nonces ≡ nonce_count
    pub memory : NoncesHold w.bank.clock nonces
    pub grow : w.bank.openings ≤ o
    pub numbers : o ≤ max_openings
    pub counters : length series ≡ place_count
    pub series_hold : SeriesHold o series (set w.bank.places i p)
    pub new : PlaceHolds p.used w.bank.clock o p bytes
    pub order : is_free p.used ≡ false → p.number < series_limit
    pub apart_place : (j : ℕ) → j < place_count → (j ≡ i → ⊥) → is_free p.used ≡ false → is_free (place_at w.bank j).used ≡ false →
        Alike p (place_at w.bank j) → ⊥
    pub apart_download : (j : ℕ) → is_free p.used ≡ false → (download_at w.bank j).used ≡ true →
        p.transaction.low ≡ (download_at w.bank j).transaction.low → ⊥
    pub open_all : open_count (changed_at i p o series nonces orders w).bank ≤ max_open
    pub open_of : (s : ℕ) → open_count_of s (changed_at i p o series nonces orders w).bank ≤ max_open_per_subscriber

  -- what holds of the changed place and of the others holds of each place
  pub each-place : length w.bank.places ≡ place_count → i < place_count → (P : ℕ → Place → Type 0) → P i p →
      ((j : ℕ) → j < place_count → (j ≡ i → ⊥) → P j (place_at w.bank j)) → (j : ℕ) → j < place_count →
      P j (get_or (set w.bank.places i p) j no_place)
  each-place long inside P new others j h =
      each_set w.bank.places i p no_place (omega arith) (λ (k : ℕ) (r : Place). k < place_count → P k r) (λ _. new)
      (λ k n b. others k b n) j h

  pub place-change : StateHolds w → PlaceChange → StateHolds (changed_at i p o series nonces orders w)
  unfolding mailbox_file file_length
  place-change v c = record {
    sizes = record {
      places = length-set w.bank.places i p ∙ v.sizes.places;
      downloads = v.sizes.downloads;
      nonces = c.remembered;
      files = v.sizes.files;
      series = c.counters;
      orders = c.stored;
      mailboxes = v.sizes.mailboxes;
    };
    numbers = c.numbers;
    series = c.series_hold;
    orders = each (λ (j : ℕ) (r : Place). is_free r.used ≡ false → r.number < series_limit) c.order
        (λ j a n. v.orders j a);
    places = each (λ (j : ℕ) (r : Place). PlaceHolds r.used w.bank.clock o r (part_at orders j)) (rw c.here c.new)
        (λ j a n. rw (c.elsewhere j n) (place-later w.bank.clock w.bank.clock w.bank.openings o (omega arith) c.grow
        (place_at w.bank j) (part_at w.orders j) (place_at w.bank j).used (v.places j a)));
    downloads = λ j. download-later w.bank.clock w.bank.clock w.bank.openings o (omega arith) c.grow
        (mailbox_file w (download_at w.bank j).subscriber) (download_at w.bank j) (download_at w.bank j).used (v.downloads j);
    mailboxes_hold = v.mailboxes_hold;
    places_apart = λ j k a b. each
        (λ (m : ℕ) (r : Place). is_free r.used ≡ false → is_free (get_or (set w.bank.places i p) k no_place).used ≡ false →
        Alike r (get_or (set w.bank.places i p) k no_place) → m ≡ k)
        (each (λ (m : ℕ) (r : Place). is_free p.used ≡ false → is_free r.used ≡ false → Alike p r → i ≡ m)
        (λ _ _ _. refl) (λ m d n x y z. absurd (c.apart_place m d n x y z)) k b)
        (λ m d n. each (λ (l : ℕ) (r : Place). is_free (place_at w.bank m).used ≡ false → is_free r.used ≡ false →
        Alike (place_at w.bank m) r → m ≡ l)
        (λ x y z. absurd (c.apart_place m d n y x (alike-sym (place_at w.bank m) p z))) (λ l e _. v.places_apart m l d e) k b)
        j a;
    apart = λ j k a. each
        (λ (m : ℕ) (r : Place). is_free r.used ≡ false → (download_at w.bank k).used ≡ true →
        r.transaction.low ≡ (download_at w.bank k).transaction.low → ⊥)
        (c.apart_download k) (λ m d n. v.apart m k d) j a;
    in_order = v.in_order;
    nonces = c.memory;
    open_all = c.open_all;
    open_of = c.open_of;
  }
    where
      each : (P : ℕ → Place → Type 0) → P i p → ((j : ℕ) → j < place_count → (j ≡ i → ⊥) → P j (place_at w.bank j)) →
          (j : ℕ) → j < place_count → P j (get_or (set w.bank.places i p) j no_place)
      each = each-place v.sizes.places c.inside

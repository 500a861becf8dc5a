-- What a bank whose places have not changed may hold, from what is new about clock, downloads, nonces and mailboxes.
use Prim.Native.Nat.{ℕ, suc, ◌≤◌, ◌<◌}
use mathlib.Core.Bool.{true, false}
use mathlib.Core.List.{List}
use mathlib.Core.Path.{◌≡◌}
use native.Mathlib.Omega.{arith}
use lib.ListN.{length, get_or}
use Rattle.bank_state.specs.declared.state.Download.{Download}
use Rattle.bank_state.specs.Limits.{place_count, store_bytes, nonce_count, max_open, max_open_per_subscriber, max_openings}
use Rattle.bank_state.specs.Search.{is_free, open_count, open_count_of}
use Rattle.bank_state.specs.State.{Nonce, BankState, bank_state, no_download, place_at}
use Rattle.bank_state.specs.Store.{part_at}
use Rattle.bank_admitted.specs.Packed.{Packed}
use Rattle.bank_admitted.specs.State.{mailbox_file, DownloadHolds, MailboxHolds, NoncesHold, StateHolds}
use Rattle.bank_admitted.proofs.Parts.{place-later}

-- the bank with these parts, its places and their store as they are
abbrev pub besides : ℕ → ℕ → List Download → List Nonce → List ℕ → List ℕ → BankState → BankState
besides clock openings downloads nonces files mailboxes w =
    bank_state
    (record {
      clock = clock;
      openings = openings;
      series = w.bank.series;
      places = w.bank.places;
      downloads = downloads;
      nonces = nonces;
      files = files;
    })
    w.orders
    mailboxes

module _ (w : BankState) (c o : ℕ) (downs : List Download) (nonces : List Nonce) (files mailboxes : List ℕ) where
  abbrev after : BankState
  after = besides c o downs nonces files mailboxes w

  -- what is new
  pub record DownloadChange : Type 0 where
    pub listed : length downs ≡ place_count
    pub remembered : length nonces ≡ nonce_count
    pub filed : length files ≡ place_count
    pub stored : length mailboxes ≡ store_bytes
    pub later : w.bank.clock ≤ c
    pub grow : w.bank.openings ≤ o
    pub numbers : o ≤ max_openings
    pub downloads : (j : ℕ) →
        DownloadHolds (get_or downs j no_download).used c o (mailbox_file after (get_or downs j no_download).subscriber)
        (get_or downs j no_download)
    pub mailboxes_hold : (i : ℕ) → i < place_count → MailboxHolds (get_or files i 0) (part_at mailboxes i)
    pub apart : (i j : ℕ) → i < place_count → is_free (place_at w.bank i).used ≡ false → (get_or downs j no_download).used ≡ true →
        (place_at w.bank i).transaction.low ≡ (get_or downs j no_download).transaction.low → ⊥
    pub in_order : Packed (λ (e : Download). e.used) no_download (λ (e : Download). e.transaction.low)
        (λ (e : Download). suc e.transaction.low) 0 downs
    pub memory : NoncesHold c nonces
    pub open_all : open_count after.bank ≤ max_open
    pub open_of : (s : ℕ) → open_count_of s after.bank ≤ max_open_per_subscriber

  pub download-change : StateHolds w → DownloadChange → StateHolds (besides c o downs nonces files mailboxes w)
  download-change v k = record {
    sizes = record {
      places = v.sizes.places;
      downloads = k.listed;
      nonces = k.remembered;
      files = k.filed;
      series = v.sizes.series;
      orders = v.sizes.orders;
      mailboxes = k.stored;
    };
    numbers = k.numbers;
    series = record { limited = v.series.limited; counted = omega (arith, v.series.counted, k.grow) };
    orders = v.orders;
    places = λ i a. place-later w.bank.clock c w.bank.openings o k.later k.grow (place_at w.bank i) (part_at w.orders i)
        (place_at w.bank i).used (v.places i a);
    downloads = k.downloads;
    mailboxes_hold = k.mailboxes_hold;
    places_apart = v.places_apart;
    apart = k.apart;
    in_order = k.in_order;
    nonces = k.memory;
    open_all = k.open_all;
    open_of = k.open_of;
  }

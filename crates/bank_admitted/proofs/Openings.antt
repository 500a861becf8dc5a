-- An accepted opening keeps what the state may hold.
use Prim.Native.Nat.{ℕ, suc, ◌+◌, ◌-◌, ◌≤◌, ◌<◌}
use mathlib.Core.Bool.{Bool, true, false, not, ◌&&◌, not-not}
use mathlib.Core.List.{List}
use mathlib.Core.Logic.{inl, inr}
use mathlib.Core.Path.{◌≡◌, refl, sym, ◌∙◌, subst}
use native.Mathlib.Omega.{arith}
use lib.Dec.{eqb}
use lib.ListN.{length, set, replicate, length-set}
use borrow.Author.Tests.{eqb-true}
use Rattle.frame_table.specs.declared.fields.Bits128.{Bits128}
use Rattle.frame_table.specs.declared.fields.Fields.{Fields}
use Rattle.frame_table.specs.Names.{subscriber, nonce, timestamp, segments}
use Rattle.octets.proofs.Tests.{never, and-true}
use Rattle.message.specs.declared.editions.Edition.{Edition}
use Rattle.message.specs.declared.editions.Edition.TheVariants as edition
use Rattle.message.specs.Editions.{edition_of}
use Rattle.message.specs.Limits.{file_bytes}
use Rattle.message.proofs.SegmentNumbers.{some-segment}
use Rattle.bank_state.specs.declared.state.Download.{Download}
use Rattle.bank_state.specs.declared.state.Place.{Place}
use Rattle.bank_state.specs.declared.state.Use.{Use}
use Rattle.bank_state.specs.declared.state.Use.TheVariants.{Free, Open, Booked}
use Rattle.bank_state.specs.Limits.{place_count, max_open, max_open_per_subscriber}
use Rattle.bank_state.specs.Numbers.{next_number}
use Rattle.bank_state.specs.Rows.{count_of}
use Rattle.bank_state.specs.Search.{is_free, is_open, free_place, free_download, free_nonce, open_count, open_count_of}
use Rattle.bank_state.specs.State.{Bank, Nonce, BankState, bank_state, no_place, no_download, place_at, download_at, file_length}
use Rattle.bank_state.specs.Store.{part_at}
use Rattle.bank_state.proofs.Rows.{first_passes}
use Rattle.bank_verdicts.specs.declared.verdict.Context.{Context}
use Rattle.bank_verdicts.specs.Judgement.{transaction_of, opening_number}
use Rattle.bank_verdicts.proofs.Series.{number-unheld, number-own}
use Rattle.bank_verdicts.proofs.Sound.{Acceptable, Readable, Numbered}
use Rattle.bank_openings.specs.Openings.{counted, moved_by, moved, counted_upload, new_place, open_upload, new_download, open_download}
use Rattle.bank_admitted.specs.State.{mailbox_file, Alike, PlaceHolds, FreePlace, DownloadHolds, NoncesHold, SeriesHold, StateHolds}
use Rattle.bank_admitted.proofs.Rows.{each_set, first-if-few, count-set-le, count-set-suc, packed-add}
use Rattle.bank_admitted.proofs.Ahead.{own-holds, chosen-holds}
use Rattle.bank_admitted.proofs.Nonces.{nonces-added}
use Rattle.bank_admitted.proofs.Parts.{place_opened, download-later, download-opened}
use Rattle.bank_admitted.proofs.Held.{held-by-none, place-counted, file-long, download-open}
use Rattle.bank_admitted.proofs.PlaceChange.{place-change}
use Rattle.bank_admitted.proofs.DownloadChange.{download-change}

is_free_lem : (u : Use) → is_free u ≡ true → u ≡ Free
is_free_lem Free e = refl
is_free_lem Open e = never e
is_free_lem Booked e = never e

pub free-passes : (b : Bank) → free_place b < length b.places → is_free (place_at b (free_place b)).used ≡ true
unfolding free_place
free-passes b h = first_passes (λ (p : Place). is_free p.used) b.places no_place h

pub found-free : (b : Bank) → length b.places ≡ place_count → free_place b < place_count → (place_at b (free_place b)).used ≡ Free
found-free b long inside = is_free_lem _ (free-passes b (omega arith))

-- the bytes of the place found free
pub free-zeros : (w : BankState) → StateHolds w → free_place w.bank < place_count →
    part_at w.orders (free_place w.bank) ≡ replicate file_bytes 0
free-zeros w v inside = held.zeros
  where
    held : FreePlace (place_at w.bank (free_place w.bank)) (part_at w.orders (free_place w.bank))
    held = subst (λ (u : Use). PlaceHolds u w.bank.clock w.bank.openings (place_at w.bank (free_place w.bank))
        (part_at w.orders (free_place w.bank))) (found-free w.bank v.sizes.places inside) (v.places (free_place w.bank) inside)

-- with fewer open downloads than records there is a free record
free-inside : (b : Bank) → count_of (λ (e : Download). e.used) b.downloads < length b.downloads →
    free_download b < length b.downloads
unfolding free_download
free-inside b h = first-if-few (λ (e : Download). not e.used) b.downloads (simp not-not h)

pub free-inside-open : (b : Bank) → length b.downloads ≡ place_count → open_count b < max_open → free_download b < length b.downloads
unfolding open_count
free-inside-open b long few = free-inside b (omega arith)

-- how many pass a test that also asks for the subscriber, with one record more of the subscriber s
module _ {A : Type 0} (used : A → Bool) (owner : A → ℕ) (l : List A) (i : ℕ) (x d : A) where
  count-owner : (s : ℕ) → count_of (λ (r : A). used r && eqb (owner r) s) (set l i x) ≤ suc
      (count_of (λ (r : A). used r && eqb (owner r) s) l)
  count-owner s = count-set-suc (λ (r : A). used r && eqb (owner r) s) l i x

  count-other : (s : ℕ) → eqb (owner x) s ≡ false →
      count_of (λ (r : A). used r && eqb (owner r) s) (set l i x) ≤ count_of (λ (r : A). used r && eqb (owner r) s) l
  count-other s e = count-set-le (λ (r : A). used r && eqb (owner r) s) l i x d
      (λ z. never (sym e ∙ (and-true (used x) (eqb (owner x) s) z).1))

module _ (first : ℕ) (w : BankState) (v : StateHolds w) (q : Fields) (n : ℕ) (readable : Readable q n)
    (acceptable : Acceptable w.bank q) where
  abbrev t : Bits128
  t = transaction_of first w.bank

  abbrev o : ℕ
  o = w.bank.openings

  abbrev nonces : List Nonce
  nonces = set w.bank.nonces (free_nonce w.bank) (record { used = true; value = nonce q; timestamp = timestamp q })

  nonces-hold : NoncesHold w.bank.clock nonces
  unfolding free_nonce
  nonces-hold = nonces-added w.bank.clock w.bank.nonces v.nonces _ refl acceptable.timely acceptable.memory

  -- its order's number, chosen or the bank's own
  abbrev order : ℕ
  order = opening_number w.bank q

  abbrev context : Context
  context = record { prefix = first; others = 0 }

  -- an upload opened
  pub opens-upload : (segments q ≡ 0 → ⊥) → free_place w.bank < place_count → Numbered w.bank q →
      StateHolds (bank_state (open_upload t order q w.bank) w.orders w.mailboxes)
  unfolding open_upload counted_upload counted open_count open_count_of
  opens-upload some inside own = place-change w i new (o + 1) (moved order q w.bank.series) nonces w.orders v (record {
    bytes = replicate file_bytes 0;
    inside = inside;
    stored = v.sizes.orders;
    here = free-zeros w v inside;
    elsewhere = λ j n. refl;
    remembered = length-set w.bank.nonces (free_nonce w.bank) _ ∙ v.sizes.nonces;
    memory = nonces-hold;
    grow = omega arith;
    numbers = let z = acceptable.numbers in omega arith;
    counters = counters (edition_of q);
    series_hold = series (edition_of q) refl;
    new = place_opened (o + 1) w.bank.clock order t q (omega arith) readable.known readable.most
        (omega arith) acceptable.few;
    order = λ _. own.below;
    apart_place = λ j a n f g. not_alike j a g;
    apart_download = λ j f g e. let z = (download-open w v j g).counted in omega arith;
    open_all = let m = count-set-suc (λ (r : Place). is_open r.used) w.bank.places i new in let a = acceptable.of_all in omega arith;
    open_of = λ s. open_of s (eqb (subscriber q) s) refl;
  })
    where
      i : ℕ
      i = free_place w.bank

      new : Place
      new = new_place t order w.bank.clock q

      counters : (e : Edition) → length (moved_by e order q w.bank.series) ≡ place_count
      counters edition.V24 = v.sizes.series
      counters edition.V25 = length-set w.bank.series (subscriber q - 1) _ ∙ v.sizes.series

      -- a chosen number leaves the series, the bank's own moves it
      series : (e : Edition) → edition_of q ≡ e → SeriesHold (o + 1) (moved_by e order q w.bank.series) (set w.bank.places i new)
      series edition.V24 e = chosen-holds o i new v.series
      series edition.V25 e =
          let n : order ≡ next_number (subscriber q) w.bank = number-own context w.bank q e in
          subst (λ (m : ℕ). SeriesHold (o + 1) (set w.bank.series (subscriber q - 1) (m + 1)) (set w.bank.places i new)) (sym n)
          (own-holds w.bank (subscriber q) v.sizes.series v.sizes.places readable.known readable.most o i new
          v.series (omega (arith, own.below, n)) refl n)

      -- a new transaction, and an order number that no place in use of its subscriber has
      not_alike : (j : ℕ) → j < place_count → is_free (place_at w.bank j).used ≡ false → Alike new (place_at w.bank j) → ⊥
      not_alike j a g (inl e) = let l = place-counted w v j a g in omega arith
      not_alike j a g (inr (s, e)) =
          held-by-none w.bank (subscriber q) order v.sizes.places
          (number-unheld context w.bank q v.sizes.places own.unheld) j a g s e

      open_of : (s : ℕ) (b : Bool) → eqb (subscriber q) s ≡ b →
          count_of (λ (p : Place). is_open p.used && eqb p.subscriber s) (set w.bank.places i new)
          + count_of (λ (e : Download). e.used && eqb e.subscriber s) w.bank.downloads ≤ max_open_per_subscriber
      open_of s true e =
          let m = count-owner (λ (p : Place). is_open p.used) (λ (p : Place). p.subscriber) w.bank.places i new no_place s in
          let a : open_count_of s w.bank < max_open_per_subscriber =
          subst (λ (z : ℕ). open_count_of z w.bank < max_open_per_subscriber) (eqb-true (subscriber q) s e) acceptable.of_subscriber in
          omega arith
      open_of s false e =
          let m = count-other (λ (p : Place). is_open p.used) (λ (p : Place). p.subscriber) w.bank.places i new no_place s e in
          omega (arith, v.open_of s)

  -- a download opened
  pub opens-download : (file_length (subscriber q) w.bank.files ≡ 0 → ⊥) →
      StateHolds (bank_state (open_download t q w.bank) w.orders w.mailboxes)
  unfolding open_download counted open_count open_count_of mailbox_file file_length free_download
  opens-download some = download-change w _ (o + 1) _ nonces _ _ v (record {
    listed = length-set w.bank.downloads j new ∙ v.sizes.downloads;
    remembered = length-set w.bank.nonces (free_nonce w.bank) _ ∙ v.sizes.nonces;
    filed = v.sizes.files;
    stored = v.sizes.mailboxes;
    later = omega arith;
    grow = omega arith;
    numbers = let z = acceptable.numbers in omega arith;
    downloads = each_set w.bank.downloads j new no_download inside
        (λ (i : ℕ) (r : Download). DownloadHolds r.used w.bank.clock (o + 1) (mailbox_file w r.subscriber) r)
        (download-opened (o + 1) w.bank.clock t q (mailbox_file w (subscriber q)) (omega arith) readable.known readable.most full
        (some-segment _ full))
        (λ i n. download-later w.bank.clock w.bank.clock o (o + 1) (omega arith) (omega arith)
        (mailbox_file w (download_at w.bank i).subscriber) (download_at w.bank i) (download_at w.bank i).used (v.downloads i));
    mailboxes_hold = v.mailboxes_hold;
    apart = λ i l a f. each_set w.bank.downloads j new no_download inside
        (λ (m : ℕ) (r : Download). r.used ≡ true → (place_at w.bank i).transaction.low ≡ r.transaction.low → ⊥)
        (λ g e. let z = place-counted w v i a f in omega arith) (λ m n. v.apart i m a f) l;
    in_order = packed-add (λ (r : Download). r.used) no_download (λ (r : Download). r.transaction.low)
        (λ (r : Download). suc r.transaction.low)
        new v.in_order refl refl (omega arith) (λ i u. (download-open w v i u).counted);
    memory = nonces-hold;
    open_all = let m = count-set-suc (λ (r : Download). r.used) w.bank.downloads j new in let a = acceptable.of_all in omega arith;
    open_of = λ s. open_of s (eqb (subscriber q) s) refl;
  })
    where
      j : ℕ
      j = free_download w.bank

      new : Download
      new = new_download t w.bank.clock q

      inside : j < length w.bank.downloads
      inside = free-inside-open w.bank v.sizes.downloads acceptable.of_all

      full : 1 ≤ length (mailbox_file w (subscriber q))
      full = let z = file-long w v (subscriber q) readable.known readable.most in omega arith

      open_of : (s : ℕ) (b : Bool) → eqb (subscriber q) s ≡ b →
          count_of (λ (p : Place). is_open p.used && eqb p.subscriber s) w.bank.places
          + count_of (λ (e : Download). e.used && eqb e.subscriber s) (set w.bank.downloads j new) ≤ max_open_per_subscriber
      open_of s true e =
          let m = count-owner (λ (r : Download). r.used) (λ (r : Download). r.subscriber) w.bank.downloads j new no_download s in
          let a : open_count_of s w.bank < max_open_per_subscriber =
          subst (λ (z : ℕ). open_count_of z w.bank < max_open_per_subscriber) (eqb-true (subscriber q) s e) acceptable.of_subscriber in
          omega arith
      open_of s false e =
          let m = count-other (λ (r : Download). r.used) (λ (r : Download). r.subscriber) w.bank.downloads j new no_download s e in
          omega (arith, v.open_of s)

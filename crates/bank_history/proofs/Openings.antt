-- An accepted opening keeps the invariant.
use Prim.Native.Nat.{ℕ, suc, ◌+◌, ◌-◌, ◌≤◌, ◌<◌}
use mathlib.Core.Bool.{Bool, true, false, cond, ◌&&◌}
use mathlib.Core.List.{List, ◌∷◌}
use mathlib.Core.Path.{◌≡◌, refl, sym, ap, ◌∙◌, subst}
use native.Mathlib.Numerals.{add-one}
use native.Mathlib.Omega.{arith}
use lib.Dec.{eqb}
use lib.ListN.{length, set, replicate}
use lib.Seq.{get_or-set_same, get_or-set_other}
use borrow.Author.Tests.{eqb-true, eqb-false, not-false}
use Rattle.frame_table.specs.declared.fields.Bits128.{Bits128}
use Rattle.frame_table.specs.declared.fields.Fields.{Fields}
use Rattle.frame_table.specs.declared.table.Form.{Form}
use Rattle.frame_table.specs.Forms as forms
use Rattle.frame_table.specs.Names.{subscriber, nonce, timestamp, segments, order_number, form}
use Rattle.message.specs.declared.editions.Edition.{Edition}
use Rattle.message.specs.declared.editions.Edition.TheVariants as edition
use Rattle.message.specs.Editions.{edition_of, opening_form}
use Rattle.message.specs.Limits.{subscribers, file_bytes}
use Rattle.message.specs.OrderNumbers.{is_order_number}
use Rattle.message.proofs.OrderNumbers.{said-number}
use Rattle.message.specs.Segments.{segments_of}
use Rattle.bank_state.specs.declared.state.Download.{Download}
use Rattle.bank_state.specs.State.{Nonce}
use Rattle.bank_state.specs.declared.state.Place.{Place}
use Rattle.bank_state.specs.declared.state.Use.{Use}
use Rattle.bank_state.specs.declared.state.Use.TheVariants.{Free, Booked}
use Rattle.bank_state.specs.Limits.{place_count}
use Rattle.bank_state.specs.Search.{is_booked, free_place, free_download, free_nonce}
use Rattle.bank_state.specs.State.{BankState, no_download, place_at, download_at, file_length, series_of}
use Rattle.bank_state.specs.Store.{part_at}
use Rattle.bank_state.proofs.Numbers.{next-from}
use Rattle.bank_openings.specs.Openings.{counted, moved_by, moved, counted_upload, new_place, open_upload, new_download, open_download}
use Rattle.bank_steps.specs.Steps.{carry_out}
use Rattle.bank_verdicts.specs.declared.verdict.Action.TheVariants as action
use Rattle.bank_verdicts.specs.declared.verdict.DownloadAction.TheVariants as down
use Rattle.bank_verdicts.specs.declared.verdict.UploadAction.TheVariants as up
use Rattle.bank_verdicts.specs.declared.verdict.Action.{Action}
use Rattle.bank_verdicts.specs.declared.verdict.Verdict.TheVariants as verdict
use Rattle.bank_verdicts.specs.Refusals.{bad_number, no_order_number, find_order}
use Rattle.bank_verdicts.specs.Judgement.{transaction_of, number_by, opening_number, mailbox_segments}
use Rattle.bank_verdicts.proofs.Sound.{Acceptable, Numbered, Readable}
use Rattle.bank_admitted.specs.State.{mailbox_file}
use Rattle.bank_admitted.proofs.Rows.{each_set}
use Rattle.bank_admitted.proofs.Held.{place-counted, file-long, download-open}
use Rattle.bank_admitted.proofs.Openings.{free-inside-open}
use Rattle.bank_admitted.proofs.Openings as admitted
use Rattle.bank_history.specs.History.{Exchange, is_booking, is_opening, remembers, nonce_of, is_action, did, ever, accepted, is_own, own_numbering}
use Rattle.bank_history.specs.Signatures.{is_signing_form}
use Rattle.bank_history.specs.Sound.{NumberedAs, SoundOpening, more}
use Rattle.bank_history.specs.Invariant.{PlaceTold, DownloadTold, Memory, Invariant}
use Rattle.bank_history.proofs.Entries.{did-other, known_more, booked-more, accepted-own}
use Rattle.bank_history.proofs.Memory.{memory-added}
use Rattle.bank_history.proofs.Places.{place-unchanged, place_opened, places-told}
use Rattle.bank_history.proofs.Records.{download-unchanged, download-opened}
use Rattle.bank_history.proofs.Signatures.{signers-unchanged, unsigned-form, opening-unsigned, unbooked-signers}
use Rattle.bank_history.proofs.Uploads.{entry, bare, booked-at, still-booked}
use Rattle.bank.proofs.WrittenReplies.{carried-segment}

free-not-booked : (u : Use) → u ≡ Free → u ≡ Booked → ⊥
free-not-booked u e f = let z : ◌≡◌ {A = ℕ} 0 1 = cc in omega arith

module _ (first : ℕ) (w : BankState) (h : List Exchange) (v : Invariant w h) (q : Fields) (d : List ℕ) (readable : Readable q (length d))
    (acceptable : Acceptable w.bank q) where
  abbrev t : Bits128
  t = transaction_of first w.bank

  abbrev o : ℕ
  o = w.bank.openings

  -- the upload's number
  abbrev m : ℕ
  m = opening_number w.bank q

  abbrev nonces : List Nonce
  nonces = set w.bank.nonces (free_nonce w.bank) (record { used = true; value = nonce q; timestamp = timestamp q })

  unknown : ever is_action t h ≡ false
  unknown = at (ever is_action t h) refl
    where
      at : (b : Bool) → ever is_action t h ≡ b → b ≡ false
      at true e = absurd (let z = v.known t e in omega arith)
      at false e = refl

  memory_kept : (x : Exchange) → remembers x.verdict ≡ true → x.request ≡ q → Memory w.bank.clock nonces (x ∷ h)
  unfolding free_nonce
  memory_kept x opened same =
      let e : nonce_of x ≡ record { used = true; value = nonce q; timestamp = timestamp q } =
      ap (λ (f : Fields). record { used = true; value = nonce f; timestamp = timestamp f }) same in
      subst (λ (z : Nonce). Memory w.bank.clock (set w.bank.nonces (free_nonce w.bank) z) (x ∷ h)) e
      (memory-added w.bank.clock h x opened (rw same acceptable.timely) w.bank.nonces v.memory acceptable.memory)

  module _ (k : Action) (starts : is_opening k ≡ true) (unbooked : is_booking k ≡ false) (x : Exchange)
      (own : x.verdict ≡ verdict.Of t k) where
    counted-more : o + 1 ≡ accepted (x ∷ h)
    counted-more = let a : accepted (x ∷ h) ≡ suc (accepted h) = accepted-own t k x h own
        ∙ rw starts refl in let b = v.counted in omega arith

    places-stay : (i : ℕ) → i < place_count →
        PlaceTold (place_at w.bank i).used (x ∷ h) (place_at w.bank i) (part_at w.orders i)
    places-stay i a =
        place-unchanged x h (place_at w.bank i) (part_at w.orders i) (place_at w.bank i).used
        (λ f. ap (did is_action (place_at w.bank i).transaction) own
        ∙ did-other (place_at w.bank i).transaction t k (λ z. let n = place-counted w v.state i a f in omega arith))
        (v.places i a)

    downloads-stay : (j : ℕ) →
        DownloadTold (download_at w.bank j).used (x ∷ h) (mailbox_file w (download_at w.bank j).subscriber) (download_at w.bank j)
    downloads-stay j =
        download-unchanged x h (mailbox_file w (download_at w.bank j).subscriber) (download_at w.bank j) (download_at w.bank j).used
        (λ f. ap (did is_action (download_at w.bank j).transaction) own
        ∙ did-other (download_at w.bank j).transaction t k (λ z. let n = (download-open w v.state j f).counted in omega arith))
        (v.downloads j)

    known-stays : (u : Bits128) → ever is_action u (x ∷ h) ≡ true → u.low < o + 1
    known-stays = known_more t k x h own (o + 1) (omega arith) (λ u e. let z = v.known u e in omega arith)

  -- an upload that the bank numbers takes its subscriber's counter past its number, and no other; one that brings its
  -- number takes none
  series-moved : (n s : ℕ) → 1 ≤ s → s ≤ subscribers → series_of s (moved n q w.bank.series)
      ≡ cond (is_own (edition_of q) && eqb (subscriber q) s) (suc n) (own_numbering s h)
  unfolding series_of
  series-moved n s known most = by (edition_of q)
    where
      at : (b : Bool) → eqb (subscriber q) s ≡ b →
          series_of s (set w.bank.series (subscriber q - 1) (n + 1)) ≡ cond b (suc n) (own_numbering s h)
      at true z =
          let same = eqb-true (subscriber q) s z in
          let long = v.state.sizes.series in
          let i = readable.known in
          let j = readable.most in
          ap (λ (i : ℕ). series_of i (set w.bank.series (subscriber q - 1) (n + 1))) (sym same)
          ∙ (get_or-set_same w.bank.series (subscriber q - 1) (n + 1) 0 (omega arith) ∙ add-one n)
      at false z =
          get_or-set_other w.bank.series (subscriber q - 1) (s - 1) (n + 1) 0
          (λ e. eqb-false (subscriber q) s z (let i = readable.known in omega arith))
          ∙ v.series s known most

      by : (e : Edition) → series_of s (moved_by e n q w.bank.series)
          ≡ cond (is_own e && eqb (subscriber q) s) (suc n) (own_numbering s h)
      by edition.V24 = v.series s known most
      by edition.V25 = at (eqb (subscriber q) s) refl

  -- its number is the one brought, or one that the bank's own numbering has not passed
  numbered-as : (x : Exchange) → x.request ≡ q → no_order_number q ≡ false → NumberedAs (edition_of q) m x h
  unfolding opening_number
  numbered-as x same good = by (edition_of q) good
    where
      by : (e : Edition) → bad_number e q ≡ false → NumberedAs e (number_by e w.bank q) x h
      by edition.V24 z = ap order_number same ∙ sym (said-number (order_number q) (not-false (is_order_number (order_number q)) z)).1
      by edition.V25 z =
          let a = v.series (subscriber q) readable.known readable.most in
          let b = next-from (subscriber q) w.bank in
          rw same (omega arith)

  sound-opening : (f : Form) (x : Exchange) → x.request ≡ q → form q ≡ f → SoundOpening f t x h
  sound-opening f x e asked = record {
    numbered = v.counted;
    asked = ap form e ∙ asked;
    known = rw e readable.known;
    most = rw e readable.most;
  }

  -- an upload opened
  pub opens-upload : form q ≡ opening_form (edition_of q) → (segments q ≡ 0 → ⊥) → free_place w.bank < place_count →
      Numbered w.bank q →
      let u = verdict.Of t (action.Upload (up.Opened m)) in
      Invariant (carry_out u w q d) (entry u w q d ∷ h)
  unfolding open_upload counted_upload counted mailbox_file file_length own_numbering find_order
  opens-upload asked some inside own = record {
    state = admitted.opens-upload first w v.state q (length d) readable acceptable some inside own;
    counted = counted-more k refl refl x refl;
    series = series-moved m;
    places = places-told (x ∷ h) w i new w.orders (replicate file_bytes 0) v.state.sizes.places inside
        (admitted.free-zeros w v.state inside) (λ j n. refl) (place_opened x h w.bank.clock m t refl unknown)
        (λ j a n. places-stay k refl refl x refl j a);
    downloads = downloads-stay k refl refl x refl;
    memory = memory_kept x refl refl;
    known = known-stays k refl refl x refl;
    booked = λ u g. still-booked w i new (carry_out (verdict.Of t k) w q d) refl
        (free-not-booked _ (admitted.found-free w.bank v.state.sizes.places inside)) u
        (v.booked u (booked-more t k x h refl refl u g));
    signers = λ owner order. unbooked-signers owner order w.bank.places i new (let l = v.state.sizes.places in omega arith)
        (ap is_booked (admitted.found-free w.bank v.state.sizes.places inside)) refl
        ∙ (v.signers owner order
        ∙ sym (signers-unchanged _ x h (unsigned-form x (ap is_signing_form asked ∙ opening-unsigned (edition_of q)))));
    sound = more {e = x} (record {
      reply = refl;
      verdict = record {
        opening = sound-opening (opening_form (edition_of q)) x refl asked;
        number = numbered-as x refl own.spelled;
        limited = own.below;
        some = omega arith;
        few = acceptable.few;
        bare = bare w (subscriber q);
      };
    }) v.sound;
  }
    where
      i : ℕ
      i = free_place w.bank

      new : Place
      new = new_place t m w.bank.clock q

      k : Action
      k = action.Upload (up.Opened m)

      x : Exchange
      x = entry (verdict.Of t k) w q d

  -- a download opened
  pub opens-download : form q ≡ forms.DownloadOpening → (file_length (subscriber q) w.bank.files ≡ 0 → ⊥) →
      let u = verdict.Of t (action.Download (down.Opened (mailbox_segments (subscriber q) w.bank))) in
      Invariant (carry_out u w q d) (entry u w q d ∷ h)
  unfolding open_download counted mailbox_file file_length own_numbering find_order
  opens-download asked some = record {
    state = admitted.opens-download first w v.state q (length d) readable acceptable some;
    counted = counted-more k refl refl x refl;
    series = v.series;
    places = places-stay k refl refl x refl;
    downloads = each_set w.bank.downloads (free_download w.bank) (new_download t w.bank.clock q) no_download
        (free-inside-open w.bank v.state.sizes.downloads acceptable.of_all)
        (λ (i : ℕ) (r : Download). DownloadTold r.used (x ∷ h) (mailbox_file w r.subscriber) r)
        (download-opened x h w.bank.clock (mailbox_segments (subscriber q) w.bank) t refl unknown)
        (λ i n. downloads-stay k refl refl x refl i);
    memory = memory_kept x refl refl;
    known = known-stays k refl refl x refl;
    booked = λ u g. booked-at w (carry_out (verdict.Of t k) w q d) u (v.booked u (booked-more t k x h refl refl u g)) refl;
    signers = λ owner order. v.signers owner order ∙ sym (signers-unchanged _ x h (unsigned-form x (ap is_signing_form asked)));
    sound = more {e = x} (record {
      reply = refl;
      verdict = record {
        opening = sound-opening forms.DownloadOpening x refl asked;
        full = let z = long in omega arith;
        count = ap segments_of (sym long);
        part = carried-segment w (subscriber q) 1 (omega arith);
      };
    }) v.sound;
  }
    where
      k : Action
      k = action.Download (down.Opened (mailbox_segments (subscriber q) w.bank))

      x : Exchange
      x = entry (verdict.Of t k) w q d

      long : length (mailbox_file w (subscriber q)) ≡ file_length (subscriber q) w.bank.files
      long = file-long w v.state (subscriber q) readable.known readable.most

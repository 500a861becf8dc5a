-- An open download that does an action: what stays of the others, where it moves and where it ends.
use Prim.{tt}
use Prim.Native.Nat.{ℕ, ◌≤◌, ◌<◌}
use mathlib.Core.Bool.{Bool, true, false, not, ◌&&◌}
use mathlib.Core.List.{List, ◌∷◌}
use mathlib.Core.Path.{◌≡◌, refl, sym, ap, ◌∙◌, subst}
use lib.ListN.{get_or, set}
use borrow.Author.Tests.{not-true}
use Rattle.frame_table.specs.declared.fields.Bits128.{Bits128}
use Rattle.octets.proofs.Tests.{never, and-true}
use Rattle.bank_state.specs.declared.clock.Ended.{Ended}
use Rattle.bank_state.specs.declared.state.Download.{Download}
use Rattle.bank_state.specs.Clock.{ends, end_downloads}
use Rattle.bank_state.specs.Limits.{place_count}
use Rattle.bank_state.specs.Search.{is_free}
use Rattle.bank_state.specs.State.{BankState, no_download, place_at, download_at, file_length}
use Rattle.bank_state.specs.Store.{part_at}
use Rattle.bank_state.proofs.Drops.{each-end_downloads}
use Rattle.bank_downloads.specs.Downloads.{moved_to}
use Rattle.bank_verdicts.specs.declared.verdict.Action.{Action}
use Rattle.bank_verdicts.specs.declared.verdict.Verdict.TheVariants as verdict
use Rattle.bank_verdicts.specs.Refusals.{find_order}
use Rattle.bank_admitted.specs.State.{mailbox_file, StateHolds}
use Rattle.bank_admitted.proofs.Rows.{used-inside, each_set}
use Rattle.bank_admitted.proofs.Held as held
use Rattle.bank_admitted.proofs.DownloadChange.{besides}
use Rattle.bank_history.specs.History.{Exchange, is_booking, is_opening, opens, remembers, is_action, did}
use Rattle.bank_history.specs.Signatures.{is_signed}
use Rattle.bank_history.specs.Sound.{Sound, more}
use Rattle.bank_history.specs.Invariant.{PlaceTold, OpenTold, DownloadTold, Invariant}
use Rattle.bank_history.proofs.Parts.{OpenDownload, DownloadKept, download-kept}
use Rattle.bank_history.proofs.Entries.{did-other, known_more, booked-more, accepted-own, series-unmoved}
use Rattle.bank_history.proofs.Memory.{memory-unchanged}
use Rattle.bank_history.proofs.Places.{place-unchanged}
use Rattle.bank_history.proofs.Records.{download-unchanged}
use Rattle.bank_history.proofs.Signatures.{signers-unchanged}
use Rattle.bank_history.proofs.Uploads.{booked-at}

module _ (w : BankState) (h : List Exchange) (v : Invariant w h) where
  pub download-open : (j : ℕ) → (download_at w.bank j).used ≡ true →
      OpenDownload w.bank.clock w.bank.openings h (mailbox_file w (download_at w.bank j).subscriber) (download_at w.bank j)
  download-open j e =
      subst (λ (u : Bool). DownloadKept u w.bank.clock w.bank.openings h (mailbox_file w (download_at w.bank j).subscriber)
      (download_at w.bank j)) e (download-kept v j)

  pub downloads-other : (i j : ℕ) (k : Action) → (download_at w.bank i).used ≡ true → (download_at w.bank j).used ≡ true → (j ≡ i → ⊥) →
      did is_action (download_at w.bank j).transaction (verdict.Of (download_at w.bank i).transaction k) ≡ false
  downloads-other i j k a b n =
      did-other (download_at w.bank j).transaction (download_at w.bank i).transaction k (λ z. n (held.downloads-apart w v.state j i b a z))

  pub places-other : (i j : ℕ) (k : Action) → i < place_count → is_free (place_at w.bank i).used ≡ false →
      (download_at w.bank j).used ≡ true →
      did is_action (place_at w.bank i).transaction (verdict.Of (download_at w.bank j).transaction k) ≡ false
  places-other i j k a e f =
      did-other (place_at w.bank i).transaction (download_at w.bank j).transaction k (v.state.apart i j a e f)

-- the download of record j does the action k
module _ (w : BankState) (h : List Exchange) (v : Invariant w h) (j : ℕ) (used : (download_at w.bank j).used ≡ true)
    (k : Action) (no_opening : is_opening k ≡ false) (unbooked : is_booking k ≡ false) (x : Exchange)
    (own : x.verdict ≡ verdict.Of (download_at w.bank j).transaction k) (unsigned : is_signed x ≡ false) where
  abbrev e : Download
  e = download_at w.bank j

  about : (t : Bits128) → did is_action t (verdict.Of e.transaction k) ≡ false → did is_action t x.verdict ≡ false
  about t z = ap (did is_action t) own ∙ z

  places-stay : (i : ℕ) → i < place_count →
      PlaceTold (place_at w.bank i).used (x ∷ h) (place_at w.bank i) (part_at w.orders i)
  places-stay i a =
      place-unchanged x h (place_at w.bank i) (part_at w.orders i) (place_at w.bank i).used
      (λ f. about (place_at w.bank i).transaction (places-other w h v i j k a f used)) (v.places i a)

  other-stays : (i : ℕ) → (i ≡ j → ⊥) →
      DownloadTold (download_at w.bank i).used (x ∷ h) (mailbox_file w (download_at w.bank i).subscriber) (download_at w.bank i)
  other-stays i n =
      download-unchanged x h (mailbox_file w (download_at w.bank i).subscriber) (download_at w.bank i) (download_at w.bank i).used
      (λ f. about (download_at w.bank i).transaction (downloads-other w h v j i k used f n)) (v.downloads i)

  -- the downloads, files and mailboxes are others then
  download-step : (downs : List Download) (files mailboxes : List ℕ) →
      let after = besides w.bank.clock w.bank.openings downs w.bank.nonces files mailboxes w in StateHolds after →
      ((i : ℕ) → let r = get_or downs i no_download in DownloadTold r.used (x ∷ h) (mailbox_file after r.subscriber) r) → Sound x h →
      Invariant after (x ∷ h)
  unfolding find_order
  download-step downs files mailboxes state downloads sound = record {
    state = state;
    counted = v.counted ∙ sym (accepted-own e.transaction k x h own ∙ rw no_opening refl);
    series = λ s a b. v.series s a b ∙ sym (series-unmoved s x h (ap opens own ∙ no_opening));
    places = places-stay;
    downloads = downloads;
    memory = memory-unchanged _ _ x h (ap remembers own ∙ no_opening) v.memory;
    known = known_more e.transaction k x h own w.bank.openings (download-open w h v j used).0.counted v.known;
    signers = λ owner order. v.signers owner order ∙ sym (signers-unchanged _ x h unsigned);
    booked = λ t g. booked-at w (besides w.bank.clock w.bank.openings downs w.bank.nonces files mailboxes w) t
        (v.booked t (booked-more e.transaction k x h own unbooked t g)) refl;
    sound = more sound v.sound;
  }

  -- it stays open, moved
  pub moved-step : (d attempts last : ℕ) →
      let after = besides w.bank.clock w.bank.openings (set w.bank.downloads j (moved_to d attempts last e)) w.bank.nonces
      w.bank.files w.mailboxes w in StateHolds after →
      OpenTold (x ∷ h) (mailbox_file w e.subscriber) (moved_to d attempts last e) → Sound x h → Invariant after (x ∷ h)
  unfolding mailbox_file file_length
  moved-step d attempts last state new sound =
      download-step (set w.bank.downloads j new') w.bank.files w.mailboxes state
      (each_set w.bank.downloads j new' no_download (used-inside (λ (r : Download). r.used) no_download refl w.bank.downloads j used)
      (λ (i : ℕ) (r : Download). DownloadTold r.used (x ∷ h) (mailbox_file w r.subscriber) r)
      (subst (λ (u : Bool). DownloadTold u (x ∷ h) (mailbox_file w e.subscriber) new') (sym used) new) other-stays)
      sound
    where
      new' : Download
      new' = moved_to d attempts last e

  -- it ends, with every other download for which the test holds; the mailboxes of those that stay do not change
  pub ended-step : (which : Ended) (files mailboxes : List ℕ) → ends which e ≡ true →
      let after = besides w.bank.clock w.bank.openings (end_downloads which w.bank.downloads) w.bank.nonces files mailboxes w in
      ((i : ℕ) → let r = get_or (end_downloads which w.bank.downloads) i no_download in r.used ≡ true → 1 ≤ r.subscriber →
      mailbox_file after r.subscriber ≡ mailbox_file w r.subscriber) →
      StateHolds after → Sound x h → Invariant after (x ∷ h)
  ended-step which files mailboxes gone same state sound =
      download-step (end_downloads which w.bank.downloads) files mailboxes state
      (λ i. moved _ _ (λ u. same i u (held.download-open _ state i u).known)
      (each-end_downloads (λ (r : Download). Told r.used (mailbox_file w r.subscriber) r) tt which w.bank.downloads
      (λ l _ g. stays l g) i))
      sound
    where
      Told : Bool → List ℕ → Download → Type 0
      Told u file r = DownloadTold u (x ∷ h) file r

      moved : (u : Bool) (r : Download) {file : List ℕ} → (u ≡ true → file ≡ mailbox_file w r.subscriber) →
          Told u (mailbox_file w r.subscriber) r → Told u file r
      moved true r f k = rw (f refl) k
      moved false r f k = k

      stays : (i : ℕ) → ((download_at w.bank i).used && not (ends which (download_at w.bank i))) ≡ true →
          Told (download_at w.bank i).used (mailbox_file w (download_at w.bank i).subscriber) (download_at w.bank i)
      stays i g =
          let a = and-true (download_at w.bank i).used (not (ends which (download_at w.bank i))) g in
          let f = not-true (ends which (download_at w.bank i)) a.1 in
          other-stays i (λ z. never (sym f ∙ (ap (λ (m : ℕ). ends which (download_at w.bank m)) z ∙ gone)))

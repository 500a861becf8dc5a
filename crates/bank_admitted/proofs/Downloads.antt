-- A request to an open download keeps what the state may hold, whatever the verdict.
use Prim.Native.Nat.{ℕ, suc, ◌+◌, ◌-◌, ◌≤◌, ◌<◌}
use mathlib.Core.Bool.{Bool, true, false, not, ◌&&◌}
use mathlib.Core.List.{List}
use mathlib.Core.Path.{◌≡◌, refl, sym, ap, ◌∙◌, subst}
use native.Mathlib.Decide.{ℕ_discrete}
use native.Mathlib.Omega.{arith}
use lib.Dec.{eqb}
use lib.ListN.{length, get_or, set, length-set}
use lib.Seq.{get_or-set_same, get_or-set_other}
use borrow.Author.Tests.{eqb-false, not-true}
use Rattle.frame_table.specs.declared.fields.Fields.{Fields}
use Rattle.frame_table.specs.Names.{subscriber, transaction}
use Rattle.octets.proofs.Tests.{never, and-true}
use Rattle.message.specs.Limits.{max_attempts}
use Rattle.message.specs.Segments.{segments_of}
use Rattle.bank_state.specs.declared.clock.Ended.{Ended}
use Rattle.bank_state.specs.declared.clock.Ended.TheVariants as ending
use Rattle.bank_state.specs.declared.state.Download.{Download}
use Rattle.bank_state.specs.Clock.{ends, end_downloads}
use Rattle.bank_state.specs.Limits.{place_count, store_bytes}
use Rattle.bank_state.specs.Search.{is_download, open_count, open_count_of}
use Rattle.bank_state.specs.State.{Nonce, BankState, no_download, place_at, download_at, file_length}
use Rattle.bank_state.specs.Store.{part_at, zeroed, file_of}
use Rattle.bank_state.proofs.Rows.{count-keep_only}
use Rattle.bank_state.proofs.Drops.{length-end_downloads, each-end_downloads}
use Rattle.bank_state.proofs.Found.{download-found}
use Rattle.bank_state.proofs.Stores.{length-zeroed, zeroed-same, zeroed-other}
use Rattle.bank_verdicts.specs.declared.verdict.TransactionRequest.{TransactionRequest}
use Rattle.bank_verdicts.specs.declared.verdict.DownloadAction.{DownloadAction}
use Rattle.bank_verdicts.specs.declared.verdict.Action.TheVariants as action
use Rattle.bank_verdicts.specs.declared.verdict.Verdict.TheVariants as verdict
use Rattle.bank_verdicts.specs.Judgement.{mailbox_segments, download_of}
use Rattle.bank_verdicts.proofs.Sound.{
  Readable,
  DownloadSound,
  delivered,
  sent_again,
  download_point,
  cancelled,
  confirmed,
  declined,
}
use Rattle.bank_downloads.specs.Downloads.{moved_to}
use Rattle.bank_steps.specs.Steps.{ended, emptied, carry_out}
use Rattle.bank_admitted.specs.State.{mailbox_file, OpenRecord, DownloadHolds, MailboxHolds, NoncesHold, StateHolds}
use Rattle.bank_admitted.proofs.Rows.{used-inside, each_set, count-set-le, packed-set, packed-keep_only}
use Rattle.bank_steps.proofs.Cases.{ToDownload}
use Rattle.bank_admitted.proofs.Held.{file-long, download-open}
use Rattle.bank_admitted.proofs.Parts.{download-later, download-moved}
use Rattle.bank_admitted.proofs.DownloadChange.{besides, download-change}

-- ---- an emptied mailbox

module _ (w : BankState) (box : ℕ) (long : length w.mailboxes ≡ store_bytes) (inside : box < place_count) where
  pub mailbox-other : (c o : ℕ) (downs : List Download) (nonces : List Nonce) (s : ℕ) → (s - 1 ≡ box → ⊥) →
      mailbox_file (besides c o downs nonces (set w.bank.files box 0) (zeroed w.mailboxes box) w) s ≡ mailbox_file w s
  unfolding mailbox_file file_length file_of
  mailbox-other c o downs nonces s n =
      rw (
        get_or-set_other w.bank.files box (s - 1) 0 0 n,
        zeroed-other w.mailboxes box long inside (s - 1) n,
      )

  mailbox-emptied : length w.bank.files ≡ place_count →
      ((i : ℕ) → i < place_count → MailboxHolds (get_or w.bank.files i 0) (part_at w.mailboxes i)) →
      (i : ℕ) → i < place_count → MailboxHolds (get_or (set w.bank.files box 0) i 0) (part_at (zeroed w.mailboxes box) i)
  mailbox-emptied filed old i a = at (ℕ_discrete i box)
    where
      at : Dec (i ≡ box) → MailboxHolds (get_or (set w.bank.files box 0) i 0) (part_at (zeroed w.mailboxes box) i)
      at (yes z) =
          rw z (rw (get_or-set_same w.bank.files box 0 0 (omega arith), zeroed-same w.mailboxes box long inside)
          (record { room = omega arith; zeros = refl }))
      at (no n) = rw (get_or-set_other w.bank.files box i 0 0 n, zeroed-other w.mailboxes box long inside i n) (old i a)

-- "every download of that mailbox ended": those still open are of other subscribers
emptied-ends : (w : BankState) (s i : ℕ) → let e = get_or (end_downloads (ending.Mailbox s) w.bank.downloads) i no_download in
    e.used ≡ true → e.subscriber ≡ s → ⊥
unfolding ends
emptied-ends w s =
    each-end_downloads (λ (e : Download). e.used ≡ true → e.subscriber ≡ s → ⊥) (λ u. never u) (ending.Mailbox s) w.bank.downloads
    (λ k _ g _. let e = download_at w.bank k in
    eqb-false e.subscriber s (not-true _ (and-true e.used (not (eqb e.subscriber s)) g).1))

module _ (w : BankState) (v : StateHolds w) where
  -- ---- the download of record j stays open, moved

  module _ (j : ℕ) (used : (download_at w.bank j).used ≡ true) (d attempts last : ℕ) where
    abbrev e : Download
    e = download_at w.bank j

    moved-step : OpenRecord w.bank.clock w.bank.openings (mailbox_file w e.subscriber) (moved_to d attempts last e) →
        StateHolds (besides w.bank.clock w.bank.openings (set w.bank.downloads j (moved_to d attempts last e)) w.bank.nonces
        w.bank.files w.mailboxes w)
    unfolding mailbox_file file_length open_count open_count_of
    moved-step new = download-change w _ _ _ _ _ _ v (record {
      listed = length-set w.bank.downloads j _ ∙ v.sizes.downloads;
      remembered = v.sizes.nonces;
      filed = v.sizes.files;
      stored = v.sizes.mailboxes;
      later = omega arith;
      grow = omega arith;
      numbers = v.numbers;
      downloads = each (λ (i : ℕ) (r : Download). DownloadHolds r.used w.bank.clock w.bank.openings
          (mailbox_file w r.subscriber) r)
          (subst (λ (u : Bool). DownloadHolds u w.bank.clock w.bank.openings (mailbox_file w e.subscriber) new') (sym used) new)
          (λ i n. v.downloads i);
      mailboxes_hold = v.mailboxes_hold;
      apart = λ i l a f. each (λ (m : ℕ) (r : Download). r.used ≡ true → (place_at w.bank i).transaction.low ≡ r.transaction.low → ⊥)
          (v.apart i j a f) (λ m n. v.apart i m a f) l;
      in_order = packed-set (λ (r : Download). r.used) no_download (λ (r : Download). r.transaction.low)
          (λ (r : Download). suc r.transaction.low)
          j new' v.in_order used refl used refl refl;
      memory = v.nonces;
      open_all = let m = count-set-le (λ (r : Download). r.used) w.bank.downloads j new' no_download (λ g. g) in
          omega (arith, v.open_all);
      open_of = λ s. let m = count-set-le (λ (r : Download). r.used && eqb r.subscriber s) w.bank.downloads j new' no_download
          (λ g. g) in omega (arith, v.open_of s);
    })
      where
        new' : Download
        new' = moved_to d attempts last e

        inside : j < length w.bank.downloads
        inside = used-inside (λ (r : Download). r.used) no_download refl w.bank.downloads j used

        each : (P : ℕ → Download → Type 0) → P j new' → ((i : ℕ) → (i ≡ j → ⊥) → P i (download_at w.bank i)) → (i : ℕ) →
            P i (get_or (set w.bank.downloads j new') i no_download)
        each = each_set w.bank.downloads j new' no_download inside

  -- ---- downloads end; the mailboxes of those that stay do not change

  pub ended-step : (which : Ended) (c : ℕ) (nonces : List Nonce) (files mailboxes : List ℕ) → w.bank.clock ≤ c →
      ((i : ℕ) → let r = get_or (end_downloads which w.bank.downloads) i no_download in r.used ≡ true → 1 ≤ r.subscriber →
      mailbox_file (besides c w.bank.openings (end_downloads which w.bank.downloads) nonces files mailboxes w) r.subscriber
      ≡ mailbox_file w r.subscriber) →
      length nonces ≡ length w.bank.nonces → NoncesHold c nonces → length files ≡ place_count → length mailboxes ≡ store_bytes →
      ((i : ℕ) → i < place_count → MailboxHolds (get_or files i 0) (part_at mailboxes i)) →
      StateHolds (besides c w.bank.openings (end_downloads which w.bank.downloads) nonces files mailboxes w)
  unfolding end_downloads open_count open_count_of
  ended-step which c nonces files mailboxes later same long memory filed stored mailboxes_hold = download-change w _ _ _ _ _ _ v (record {
    listed = length-end_downloads which w.bank.downloads ∙ v.sizes.downloads;
    remembered = long ∙ v.sizes.nonces;
    filed = filed;
    stored = stored;
    later = later;
    grow = omega arith;
    numbers = v.numbers;
    downloads = λ i.
        moved _ _ (same i)
        (each-end_downloads (λ (r : Download). Holds r.used (mailbox_file w r.subscriber) r) refl which w.bank.downloads
        (λ l _ g. download-later w.bank.clock c w.bank.openings w.bank.openings later (omega arith)
        (mailbox_file w (download_at w.bank l).subscriber) (download_at w.bank l) (download_at w.bank l).used (v.downloads l)) i);
    mailboxes_hold = mailboxes_hold;
    apart = λ i l a f. each-end_downloads (λ (r : Download). r.used ≡ true →
        (place_at w.bank i).transaction.low ≡ r.transaction.low → ⊥)
        (λ g. never g) which w.bank.downloads (λ m _ g. v.apart i m a f) l;
    in_order = packed-keep_only (λ (r : Download). r.used) no_download (λ (r : Download). r.transaction.low)
        (λ (r : Download). suc r.transaction.low)
        test (λ r. omega arith) v.in_order;
    memory = memory;
    open_all = let m = count-keep_only test no_download (λ (r : Download). r.used) refl w.bank.downloads in
        omega (arith, v.open_all);
    open_of = λ s. let m = count-keep_only test no_download (λ (r : Download). r.used && eqb r.subscriber s) refl
        w.bank.downloads in omega (arith, v.open_of s);
  })
    where
      test : Download → Bool
      test r = r.used && not (ends which r)

      Holds : Bool → List ℕ → Download → Type 0
      Holds u file r = DownloadHolds u c w.bank.openings file r

      moved : (u : Bool) (r : Download) {file : List ℕ} → (u ≡ true → 1 ≤ r.subscriber → file ≡ mailbox_file w r.subscriber) →
          Holds u (mailbox_file w r.subscriber) r → Holds u file r
      moved true r f k = rw (f refl k.known) k
      moved false r f k = k

  -- ---- the request

  module _ (q : Fields) (d : List ℕ) (readable : Readable q (length d))
      (found : is_download (subscriber q) (transaction q) (download_at w.bank (download_of w.bank q)) ≡ true) where
    abbrev j : ℕ
    j = download_of w.bank q

    abbrev old : Download
    old = download_at w.bank j

    -- the number of segments of its mailbox
    abbrev n : ℕ
    n = mailbox_segments (subscriber q) w.bank

    is-used : old.used ≡ true
    is-used = (download-found (subscriber q) (transaction q) old found).0

    owned : old.subscriber ≡ subscriber q
    owned = (download-found (subscriber q) (transaction q) old found).1

    is_open' : OpenRecord w.bank.clock w.bank.openings (mailbox_file w old.subscriber) old
    is_open' = download-open w v j is-used

    -- N is the number of segments of the file
    pub count-now : n ≡ segments_of (length (mailbox_file w old.subscriber))
    count-now = ap segments_of (sym (file-long w v (subscriber q) readable.known readable.most)
        ∙ ap (λ (s : ℕ). length (mailbox_file w s)) (sym owned))

    -- it stays open
    moves : (m attempts last : ℕ) → old.delivered ≤ m → m ≤ n → attempts ≤ max_attempts → last ≤ w.bank.clock →
        StateHolds (besides w.bank.clock w.bank.openings (set w.bank.downloads j (moved_to m attempts last old))
        w.bank.nonces w.bank.files w.mailboxes w)
    moves m attempts last count within tries current =
        moved-step j is-used m attempts last
        (download-moved _ _ _ old m attempts last count (let z = count-now in omega arith) tries current is_open')

    -- a recovery attempt
    attempt-keeps : old.attempts < max_attempts →
        StateHolds (besides w.bank.clock w.bank.openings
        (set w.bank.downloads j (moved_to old.delivered (old.attempts + 1) old.last old))
        w.bank.nonces w.bank.files w.mailboxes w)
    attempt-keeps few =
        let within : old.delivered ≤ n = (let z = count-now in let y = is_open'.within in omega arith) in
        moves old.delivered (old.attempts + 1) old.last (omega arith) within (omega arith) is_open'.current

    -- this transaction ends
    ends-keeps : StateHolds (ended q w)
    unfolding mailbox_file file_length
    ends-keeps =
        ended-step (ending.Transaction (subscriber q) (transaction q)) w.bank.clock w.bank.nonces w.bank.files w.mailboxes
        (omega arith) (λ i a f. refl) refl v.nonces v.sizes.files v.sizes.mailboxes v.mailboxes_hold

    -- the mailbox is emptied and all its downloads end
    abbrev box : ℕ
    box = subscriber q - 1

    abbrev downs : List Download
    downs = end_downloads (ending.Mailbox (subscriber q)) w.bank.downloads

    inside : box < place_count
    inside = let a = readable.known in let b = readable.most in omega arith

    -- those that stay are of other mailboxes
    pub others-kept : (i : ℕ) → let e = get_or (end_downloads (ending.Mailbox (subscriber q)) w.bank.downloads) i no_download in
        e.used ≡ true → 1 ≤ e.subscriber → mailbox_file (emptied (subscriber q) w) e.subscriber ≡ mailbox_file w e.subscriber
    others-kept i a k =
        let m = readable.known in
        mailbox-other w box v.sizes.mailboxes inside w.bank.clock w.bank.openings downs w.bank.nonces
        (get_or downs i no_download).subscriber (λ e. emptied-ends w (subscriber q) i a (omega arith))

    confirmed-keeps : StateHolds (emptied (subscriber q) w)
    confirmed-keeps =
        ended-step (ending.Mailbox (subscriber q)) w.bank.clock w.bank.nonces (set w.bank.files box 0)
        (zeroed w.mailboxes box) (omega arith) others-kept refl v.nonces
        (length-set w.bank.files box 0 ∙ v.sizes.files)
        (length-zeroed w.mailboxes box v.sizes.mailboxes inside ∙ v.sizes.mailboxes)
        (mailbox-emptied w box v.sizes.mailboxes inside v.sizes.files v.mailboxes_hold)

    download-sound-keeps : {r : TransactionRequest} {a : DownloadAction} → DownloadSound r old n q a →
        StateHolds (carry_out (verdict.Of old.transaction (action.Download a)) w q d)
    download-sound-keeps (delivered t next within) =
        moves (old.delivered + 1) old.attempts w.bank.clock (omega arith) (omega arith) is_open'.tries (omega arith)
    download-sound-keeps (sent_again t some again few) = attempt-keeps few
    download-sound-keeps (download_point fits few) = attempt-keeps few
    download-sound-keeps (cancelled fits many) = ends-keeps
    download-sound-keeps (confirmed t whole taken) = confirmed-keeps
    download-sound-keeps (declined t whole other) = ends-keeps

  pub download-keeps : (q : Fields) (d : List ℕ) (r : TransactionRequest) (a : DownloadAction) → ToDownload w q d r a →
      StateHolds (carry_out (verdict.Of (download_at w.bank (download_of w.bank q)).transaction (action.Download a)) w q d)
  download-keeps q d r a t = download-sound-keeps q d t.readable t.found t.sound

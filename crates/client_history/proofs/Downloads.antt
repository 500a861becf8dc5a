-- What a download run keeps.
use Prim.Native.Nat.{ℕ, ◌+◌, ◌-◌, ◌*◌, ◌<◌, ◌≤◌}
use mathlib.Core.Bool.{Bool, true, false, cond}
use mathlib.Core.List.Memᴰ.{head as here}
use mathlib.Core.List.Memᴰ.{not-nil as in-none}
use mathlib.Core.List.Memᴰ.{tail as there}
use mathlib.Core.List.{
  List,
  [],
  ◌∷◌,
  Memᴰ as In,
}
use mathlib.Core.Logic.{◌⊎◌, inl, inr}
use mathlib.Core.Path.{◌≡◌, refl, sym, ap, ◌∙◌, subst}
use native.Mathlib.Omega.{arith}
use lib.Dec.{eqb}
use lib.ListN.{length, take}
use borrow.Author.Tests.{eqb-true, eqb-false}
use Rattle.frame_table.specs.declared.fields.Bits128.{Bits128}
use Rattle.frame_table.specs.declared.fields.Fields.{Fields}
use Rattle.frame_table.specs.Forms as forms
use Rattle.octets.specs.Bytes.{overwrite}
use Rattle.frame_table.specs.Names.{transaction, segments, segment, form}
use Rattle.octets.proofs.Tests.{and-true}
use Rattle.message.specs.declared.codes.ReturnCode.TheVariants as code
use Rattle.message.specs.Limits.{segment_bytes, max_segments, file_bytes, receipt_phase}
use Rattle.message.specs.Segments.{segments_of, segment_of}
use Rattle.client_run.specs.declared.run.ClientRun.{ClientRun}
use Rattle.message.specs.declared.directions.Direction.{Direction}
use Rattle.message.specs.declared.directions.Direction.TheVariants.{Download}
use Rattle.client_run.specs.declared.run.RunTerms.{RunTerms}
use Rattle.client_run.specs.declared.run.Stage.{Stage}
use Rattle.client_run.specs.declared.run.Stage.TheVariants as stage
use Rattle.client_run.specs.declared.run.Step.{Step}
use Rattle.client_run.specs.declared.run.Step.TheVariants as step
use Rattle.client_run.specs.declared.run.Word.{Word}
use Rattle.client_run.specs.declared.run.Word.TheVariants as word
use Rattle.client_run.specs.NextRun.{
  begun,
  step_after,
  go_on,
  repeated,
  learned,
  length_with,
  holding,
  file_by,
  file_with,
  ended,
}
use Rattle.client_run.specs.Requests.{nonce_of}
use Rattle.client_run.specs.Run.{parameters_of}
use Rattle.client_run.proofs.Apart.{not-opening-receipt, not-segment-receipt}
use Rattle.client_rules.specs.Decisions.{
  says,
  is_own,
  download_word,
  closing_word,
  rest_word,
  opens_download,
  brings_segment,
  confirms,
}
use Rattle.client_history.specs.History.{Issue, Past, issue_of, BankReplies}
use Rattle.client_history.specs.Invariant.{
  DownloadIssue,
  download_opens,
  asks,
  confirms as receipt-issued,
  Answered,
  Got,
  Brought,
  HeldFile,
  FileHeld,
  DownloadStep,
  DownloadWord,
  DownloadStage,
  DownloadRun,
}
use Rattle.client_rules.proofs.Causes.{brought, opens}
use Rattle.client_history.proofs.Files.{most-segments, nothing-held, all_held, grown-end, grown-bytes}
use Rattle.client_history.proofs.Course.{DownloadAt}
use Rattle.client_history.proofs.Issues.{got, got_in}
use Rattle.client_rules.proofs.Replies.{said, opened-says, own-id}
use Rattle.client_history.proofs.Requests.{
  form-download_opening,
  form-receipt,
  id-receipt,
  is-download_opening,
  is-download_transfer,
  is-receipt,
  data-download,
}

-- ---- the requests issued, as the run goes on

-- past a segment, which is no receipt's
asked-more : {s n next : ℕ} {t : Bits128} {at : Step} {f : List ℕ} {x : Issue} (y : Step) → at ≡ step.Segment
    → DownloadIssue s n t at next f x → DownloadIssue s n t y (next + 1) f x
asked-more y e (download_opens number time nonce q d) = download_opens number time nonce q d
asked-more y e (asks number j a b c g q d) = asks number j a (omega arith) c g q d
asked-more y e (receipt-issued number z a g q d) = not-segment-receipt e z

-- before the opening's answer the transaction is open to choice
pub unasked : {s n m next more : ℕ} {t u : Bits128} {at y : Step} {f g : List ℕ} {x : Issue} → at ≡ step.Opening
    → next ≡ 0
    → DownloadIssue s n t at next f x → DownloadIssue s m u y more g x
unasked o h (download_opens number time nonce q d) = download_opens number time nonce q d
unasked o h (asks number j a b c g q d) = absurd (omega arith)
unasked o h (receipt-issued number z a g q d) = not-opening-receipt o z

module _ (Given : Fields → List ℕ → Fields → List ℕ → Type 0) where
  held_in : {t : Bits128} {n held size : ℕ} {f file : List ℕ} {l m : List Issue} → ((x : Issue) → In x l → In x m)
      → HeldFile Given f t n held size file l → HeldFile Given f t n held size file m
  held_in f h = record {
    got = got_in Given f h.got;
    id = h.id;
    number = h.number;
    least = h.least;
    most = h.most;
    some = h.some;
    top = h.top;
    last = h.last;
    end = h.end;
    bytes = h.bytes;
  }

  -- with all segments held the run's file is the mailbox's
  pub whole-file : {t : Bits128} {n held size : ℕ} {f file : List ℕ} {l : List Issue}
      → HeldFile Given f t n held size file l → held ≡ n
      → take size file ≡ f
  whole-file {held = held} {f = f} h e = h.bytes ∙ all_held f held (e ∙ h.number)

  -- segment s written after segments 1 to s - 1
  module _ (t : Bits128) (n size s : ℕ) (f file d : List ℕ) (room : length file ≡ file_bytes)
      (number : n ≡ segments_of (length f))
      (most : length f ≤ file_bytes) (some : 1 ≤ s) (within : s ≤ n) where
    place : (s - 1) * segment_bytes ≡ segment_bytes * (s - 1)
    place = omega arith

    next : s - 1 + 1 ≡ s
    next = omega arith

    below : s - 1 < segments_of (length f)
    below = omega arith

    inside : segment_bytes * (s - 1) ≤ length file
    inside = let k = most-segments (length f) most in let b = below in omega arith

    grows : {l : List Issue} (g : Got Given l forms.DownloadOpening forms.DownloadOpened code.Ok)
        → transaction g.reply ≡ t → Brought Given t s
        → 0 < length f → size ≡ length (take (segment_bytes * (s - 1)) f)
        → take size file ≡ take (segment_bytes * (s - 1)) f
        → d ≡ segment_of f s
        → HeldFile Given f t n s ((s - 1) * segment_bytes + length d) (overwrite file ((s - 1) * segment_bytes) d) l
    grows g id last least end bytes e =
        let part = e ∙ ap (segment_of f) (sym next) in
        record {
          got = g;
          id = id;
          number = number;
          least = least;
          most = most;
          some = some;
          top = within;
          last = last;
          end =
              ap (λ (m : ℕ). m + length d) place ∙ grown-end f file d (s - 1) size below inside end bytes part
              ∙ ap (λ (m : ℕ). length (take (segment_bytes * m) f)) next;
          bytes =
              subst (λ (m : ℕ). take (m + length d) (overwrite file m d) ≡ take (segment_bytes * s) f) (sym place)
              (grown-bytes f file d (s - 1) size below inside end bytes part
              ∙ ap (λ (m : ℕ). take (segment_bytes * m) f) next);
        }

  module _ (file_at : Bits128 → List ℕ) where
    -- the outstanding request is one that the run may issue
    outstanding-issue : (c : ClientRun) (payload file : List ℕ) (time : ℕ) (nonce : List ℕ) (issues : List Issue)
        → c.direction ≡ Download
        → (s : Step) → c.step ≡ s → DownloadAt s c → DownloadStep Given file_at s c file issues
        → DownloadIssue c.subscriber c.segments c.transaction c.step c.segment (file_at c.transaction)
        (issue_of c payload file time nonce)
    outstanding-issue c payload file time nonce issues down step.Opening e p k =
        download_opens c.exchange time (nonce_of nonce c.exchange) (is-download_opening c time nonce payload down e)
        (data-download c time nonce payload down)
    outstanding-issue c payload file time nonce issues down step.Segment e p k =
        asks c.exchange c.segment (omega (arith, k.some)) (omega arith) p.1 k.bytes
        (is-download_transfer c time nonce payload down e) (data-download c time nonce payload down)
    outstanding-issue c payload file time nonce issues down step.Receipt e p k =
        receipt-issued c.exchange e p (whole-file k (omega arith))
        (is-receipt c time nonce payload down e) (data-download c time nonce payload down)

    -- a run that holds its segment goes on: to the next one, or to the receipt
    goes_on : (c : ClientRun) (payload file : List ℕ) (issues : List Issue) (repeats time : ℕ) (nonce : List ℕ)
        → c.direction ≡ Download → c.stage ≡ stage.Running → c.segments ≤ max_segments
        → ((y : Step) (x : Issue) → In x issues
        → DownloadIssue c.subscriber c.segments c.transaction y (c.segment + 1) (file_at c.transaction) x)
        → HeldFile Given (file_at c.transaction) c.transaction c.segments c.segment c.length file issues
        → let next = go_on c.segment repeats c in
        DownloadRun Given file_at next file (issue_of next payload file time nonce ∷ issues)
    unfolding go_on
    goes_on c payload file issues repeats time nonce down running most each held = go (eqb c.segment c.segments) refl
      where
        next : ClientRun
        next = go_on c.segment repeats c

        new : Issue
        new = issue_of next payload file time nonce

        before : c.segment + 1 - 1 ≡ c.segment
        before = omega arith

        kept : FileHeld Given file_at next file (new ∷ issues)
        kept =
            subst
            (λ (m : ℕ). HeldFile Given (file_at c.transaction) c.transaction c.segments m c.length file
            (new ∷ issues))
            (sym before) (held_in (λ x m. there m) held)

        -- the step by the test on the segment
        at : next.step ≡ cond (eqb c.segment c.segments) step.Receipt step.Segment
        at = ap (λ (w : Direction). step_after w c.segment c.segments) down

        run : (s : Step) → next.step ≡ s → DownloadAt s next → DownloadStep Given file_at s next file (new ∷ issues)
            → DownloadRun Given file_at next file (new ∷ issues)
        run s e p g = record {
          direction = down;
          each = all;
          step = subst (λ (z : Step). DownloadStep Given file_at z next file (new ∷ issues)) (sym e) g;
          stage = subst (λ (z : Stage). DownloadStage Given file_at z next file (new ∷ issues)) (sym running) tt;
        }
          where
            all : (x : Issue) → In x (new ∷ issues)
                → DownloadIssue c.subscriber c.segments c.transaction next.step (c.segment + 1)
                (file_at c.transaction) x
            all x (here i) =
                subst (DownloadIssue _ _ _ _ _ _) (sym i)
                (outstanding-issue next payload file time nonce (new ∷ issues) down s e p g)
            all x (there m) = each next.step x m

        go : (b : Bool) → eqb c.segment c.segments ≡ b → DownloadRun Given file_at next file (new ∷ issues)
        go true e =
            run step.Receipt (at ∙ ap (λ (b : Bool). cond b step.Receipt step.Segment) e)
            (ap (λ (m : ℕ). m + 1) (eqb-true c.segment c.segments e)) kept
        go false e =
            let z = eqb-false c.segment c.segments e in
            run step.Segment (at ∙ ap (λ (b : Bool). cond b step.Receipt step.Segment) e)
            (omega arith, omega (arith, held.top), most) kept

    module _ (c : ClientRun) (payload file : List ℕ) (issues : List Issue) (u : DownloadRun Given file_at c file issues)
        (running : c.stage ≡ stage.Running) where
      abbrev p : Past
      p = record { run = c; payload = payload; file = file; issues = issues }

      abbrev At : Step → Type 0
      At s = DownloadStep Given file_at s c file issues

      -- ---- the next request

      module _ (time : ℕ) (nonce : List ℕ) where
        abbrev Goes : ClientRun → List ℕ → Type 0
        Goes next g = DownloadRun Given file_at next g (issue_of next payload g time nonce ∷ issues)

        pub repeated-run : DownloadAt c.step c → Goes (repeated c) file
        unfolding repeated
        repeated-run place = record {
          direction = u.direction;
          each = each;
          step = stepped c.step u.step;
          stage = subst (λ (s : Stage). DownloadStage Given file_at s next file (new ∷ issues)) (sym running) tt;
        }
          where
            next : ClientRun
            next = repeated c

            new : Issue
            new = issue_of next payload file time nonce

            placed : (s : Step) → DownloadAt s c → DownloadAt s next
            placed step.Opening k = k
            placed step.Segment k = k
            placed step.Receipt k = k

            stepped : (s : Step) → At s → DownloadStep Given file_at s next file (new ∷ issues)
            stepped step.Opening k = k
            stepped step.Segment k = held_in (λ x m. there m) k
            stepped step.Receipt k = held_in (λ x m. there m) k

            each : (x : Issue) → In x (new ∷ issues)
                → DownloadIssue c.subscriber c.segments c.transaction c.step c.segment
                (file_at c.transaction) x
            each x (here e) =
                subst (DownloadIssue _ _ _ _ _ _) (sym e)
                (outstanding-issue next payload file time nonce (new ∷ issues) u.direction c.step refl
                (placed c.step place) (stepped c.step u.step))
            each x (there m) = u.each x m

      -- ---- a segment's arrival

      module _ (bank : BankReplies Given file_at) (r : Fields) (d : List ℕ) (a : Answered Given p r d)
          (room : length file ≡ file_bytes)
          (time : ℕ) (nonce : List ℕ) where
        -- the reply has segment s of the transaction t
        sent : {t : Bits128} {s : ℕ} → (form r ≡ forms.DownloadOpened) ⊎ (form r ≡ forms.DownloadSegment)
            → transaction r ≡ t
            → segment r ≡ s → Brought Given t s
        sent formed id number = record {
          request = _;
          request_data = _;
          reply = r;
          bytes = d;
          given = a.given;
          formed = formed;
          id = id;
          number = number;
        }

        -- what a download has then of its file
        taken : {f : List ℕ} {t : Bits128} {n : ℕ} (s : ℕ)
            → HeldFile Given f t n s ((s - 1) * segment_bytes + length d) (overwrite file ((s - 1) * segment_bytes) d) issues
            → HeldFile Given f t n s (length_with c.direction s (length d) c.length) (file_by c.direction s d file)
            issues
        taken {f} {t} {n} s h =
            subst
            (λ (w : Direction). HeldFile Given f t n s (length_with w s (length d) c.length) (file_by w s d file) issues)
            (sym u.direction) h

        pub brought-run : c.step ≡ step.Segment → brings_segment c r (length d) ≡ true
            → Goes time nonce (go_on c.segment c.repeats (holding (length d) c)) (file_with c d file)
        brought-run e h =
            let k = (brought c r (length d) h).0 in
            let z = (brought c r (length d) h).1 in
            let i = (said _ _ _ r k.said).form-is in
            let f = subst At e u.step in
            let part : d ≡ segment_of (file_at c.transaction) c.segment =
            bank.part a.given i
            ∙ ap (λ (t : Bits128). segment_of (file_at t) (segment r)) (own-id c r k.own)
            ∙ ap (segment_of (file_at c.transaction)) k.number in
            goes_on (holding (length d) c) payload _ issues c.repeats time nonce u.direction running z.most
            (λ y x m. asked-more y e (u.each x m))
            (taken c.segment
            (grows c.transaction c.segments c.length c.segment (file_at c.transaction) file d room
            f.number f.most z.some z.within f.got f.id (sent (inr i) (own-id c r k.own) k.number)
            f.least f.end f.bytes part))

        pub opened-run : c.step ≡ step.Opening → opens_download (length d) r ≡ true
            → let k = learned Download r c in Goes time nonce (go_on 1 c.repeats (holding (length d) k))
            (file_with k d file)
        opened-run e h =
            let says_so = opened-says (length d) r h in
            let i = says_so.form-is in
            let o = opens r (length d) h in
            let at = subst At e u.step in
            let asked =
            ap form (is-download_opening c a.time a.nonce payload u.direction e) ∙ form-download_opening _ _ _ _ in
            let none = nothing-held (file_at (transaction r)) file {h = 1 - 1} {size = c.length} refl at.1 in
            goes_on (holding (length d) (learned Download r c)) payload _ issues c.repeats time nonce u.direction
            running o.segment-1.most
            (λ y x m. unasked e at.0 (u.each x m))
            (taken 1
            (grows (transaction r) (segments r) c.length 1 (file_at (transaction r)) file d room
            (bank.number a.given i) (bank.most a.given i) (omega arith) o.segment-1.within
            (got Given {p = p} a asked says_so) refl (sent (inl i) refl o.first)
            (bank.some a.given i) none.0 none.1 (bank.first a.given i)))

      -- ---- the closing words

      abbrev Closes : Word → Type 0
      Closes w = DownloadRun Given file_at (ended w c) file issues

      ended-with : (w : Word) → DownloadWord Given file_at w (ended w c) file issues → Closes w
      unfolding ended
      ended-with w k =
          record {
            direction = u.direction;
            each = u.each;
            step = stepped c.step u.step;
            stage = k;
          }
        where
          stepped : (s : Step) → At s → DownloadStep Given file_at s (ended w c) file issues
          stepped step.Opening k = k
          stepped step.Segment k = k
          stepped step.Receipt k = k

      pub confirmed-run : (r : Fields) (d : List ℕ) → Answered Given p r d → c.step ≡ step.Receipt
          → DownloadAt step.Receipt c → confirms c r ≡ true → Closes word.Fetched
      unfolding ended confirms
      confirmed-run r d a e place h =
          let k = and-true (says forms.ReceiptAnswered code.DownloadPostprocessDone receipt_phase r) (is_own c r) h in
          let q = is-receipt c a.time a.nonce payload u.direction e in
          let g = subst At e u.step in
          ended-with word.Fetched
          (record {
            held = g;
            whole = omega arith;
            got = got Given {p = p} a (ap form q ∙ form-receipt _ _ _ _) (said _ _ _ r k.0);
            id = ap transaction q ∙ id-receipt _ _ _ _;
          })

      pub rest-run : Closes (rest_word c)
      unfolding rest_word ended
      rest-run =
          subst (λ (w : Direction). Closes (closing_word w c)) (sym u.direction) (by c.step refl)
        where
          by : (s : Step) → c.step ≡ s → Closes (download_word s)
          by step.Opening e = ended-with word.NotFetched (not-opening-receipt e)
          by step.Segment e = ended-with word.NotFetched (not-segment-receipt e)
          by step.Receipt e = ended-with word.HeldUnconfirmed e

    -- ---- the begin

    pub begun-run : (s first : ℕ) (terms : RunTerms) (time : ℕ) (nonce payload file : List ℕ) (issues : List Issue) → issues ≡ []
        → let next = begun (parameters_of Download s first terms) 0 in DownloadRun Given file_at next file
        (issue_of next payload file time nonce ∷ issues)
    unfolding begun
    begun-run s first terms time nonce payload file issues z =
        record { direction = refl; each = each; step = (refl, refl); stage = tt }
      where
        next : ClientRun
        next = begun (parameters_of Download s first terms) 0

        new : Issue
        new = issue_of next payload file time nonce

        each : (x : Issue) → In x (new ∷ issues)
            → DownloadIssue s next.segments next.transaction step.Opening 0 (file_at next.transaction) x
        each x (here e) =
            subst (DownloadIssue _ _ _ _ _ _) (sym e)
            (outstanding-issue next payload file time nonce (new ∷ issues) refl step.Opening refl tt (refl, refl))
        each x (there m) = absurd (in-none (subst (In x) z m))

-- The requests of an open upload that fit: its opening, and its next segment.
use Prim.Native.Nat.{ℕ, suc, ◌+◌, ◌≤◌, ◌<◌}
use mathlib.Core.Bool.{Bool, true, false, cond, ◌&&◌}
use mathlib.Core.List.{List}
use mathlib.Core.Logic.{inl}
use mathlib.Core.Path.{◌≡◌, refl, sym, ap, ◌∙◌, subst}
use native.Mathlib.Omega.{arith}
use lib.Dec.{ltb, eqb}
use lib.ListN.{length}
use lib.Seq.{get_or-set_same}
use borrow.Author.Tests.{eqb-true, eq-eqb, ne_eqb, lt-ltb, le-ltb, lt-leb}
use Rattle.frame_table.specs.declared.fields.Bits128.{Bits128}
use Rattle.frame_table.specs.declared.fields.Fields.{Fields}
use Rattle.frame_table.specs.declared.table.Form.{Form}
use Rattle.frame_table.specs.Forms as forms
use Rattle.frame_table.specs.Names.{subscriber, transaction, segments, segment, last_mark, form, same_bits}
use Rattle.frame_table.specs.Table.{is_request_form}
use Rattle.octets.proofs.Tests.{never}
use Rattle.frame_table.proofs.Bits.{bits-same}
use Rattle.message.specs.Limits.{subscribers, segment_bytes}
use Rattle.message.specs.Segments.{last_mark_of}
use Rattle.bank_state.specs.declared.state.Place.{Place}
use Rattle.bank_state.specs.declared.state.Use.{Use}
use Rattle.bank_state.specs.declared.state.Use.TheVariants.{Open}
use Rattle.bank_state.specs.Limits.{place_count}
use Rattle.bank_state.specs.Search.{is_free, is_open, is_upload, find_upload, free_place}
use Rattle.bank_state.specs.State.{BankState, no_place, place_at}
use Rattle.bank_state.specs.Store.{part_at}
use Rattle.bank_verdicts.specs.declared.verdict.Context.{Context}
use Rattle.bank_verdicts.specs.declared.verdict.TransactionRequest.TheVariants as asks
use Rattle.bank_verdicts.specs.declared.verdict.UploadAction.{UploadAction}
use Rattle.bank_verdicts.specs.declared.verdict.UploadAction.TheVariants as up
use Rattle.bank_verdicts.specs.declared.verdict.Action.TheVariants as action
use Rattle.bank_verdicts.specs.declared.verdict.Verdict.{Verdict}
use Rattle.bank_verdicts.specs.declared.verdict.Verdict.TheVariants as verdict
use Rattle.bank_verdicts.specs.Refusals.{
  no_subscriber,
  long_data,
  request_rows,
  not_open,
  transaction_rows,
  upload_attempt,
  is_underrun,
  is_exceeded,
  segment_rows,
  upload_rows,
}
use Rattle.bank_verdicts.specs.Judgement.{upload_at, takes, judge_upload, judge_open, judge_transaction, judge_form, judge}
use Rattle.bank_verdicts.proofs.Sound.{Readable}
use Rattle.bank_openings.specs.Openings.{counted, counted_upload, open_upload}
use Rattle.bank_uploads.specs.Uploads.{grown}
use Rattle.bank_steps.specs.Steps.{carry_out}
use Rattle.bank.specs.Call.{respond}
use Rattle.bank_history.specs.History.{Exchange, opens}
use Rattle.bank_history.specs.Invariant.{Invariant}
use Rattle.bank_history.proofs.Parts.{OpenUpload, PlaceKept, place_kept}
use Rattle.bank_history.specs.Transactions.{UploadAt}
use Rattle.bank_state.proofs.Rows.{first_passes}
use Rattle.bank_admitted.proofs.Rows.{first-at-most}
use Rattle.bank_steps.proofs.Cases.{Happens, unreadable, refused, opens_upload, opens_download, signs, to_upload, to_download}
use Rattle.bank_history.proofs.GoesOn.{upload-goes-on}
use Rattle.bank_history.proofs.Entries.{and_no, same_bits_lem}
use Rattle.bank_state.proofs.Found.{upload-found}

-- ---- a readable request that is not refused at once

module _ (context : Context) (w : BankState) (q : Fields) (d : List ℕ) (f : Form) (asked : form q ≡ f) (readable : Readable q (length d)) where
  proceeds : judge context w.bank q (length d) ≡ judge_form (form q) context w.bank q
  unfolding judge request_rows no_subscriber long_data
  proceeds = rw (
    readable.request,
    le-ltb (subscriber q) 1 readable.known,
    le-ltb subscribers (subscriber q) readable.most,
    le-ltb segment_bytes (length d) readable.short,
  )

  pub verdict-by-form : judge context w.bank q (length d) ≡ judge_form f context w.bank q
  verdict-by-form = proceeds ∙ ap (λ (g : Form). judge_form g context w.bank q) asked

-- ---- the upload is found

is-upload : (s : ℕ) (t : Bits128) (p : Place) → p.used ≡ Open → p.subscriber ≡ s → p.transaction ≡ t → is_upload s t p ≡ true
unfolding is_upload
is-upload s t p a b c =
    let x : is_open p.used ≡ true = ap is_open a in
    let y : eqb p.subscriber s ≡ true = eq-eqb p.subscriber s b in
    let z : same_bits p.transaction t ≡ true = ap (λ (u : Bits128). same_bits u t) c ∙ same_bits_lem t in
    rw (x, y, z)

module _ (w : BankState) (h : List Exchange) (v : Invariant w h) (t : Bits128) (s k n last : ℕ) (u : UploadAt w t s k n last) where
  abbrev p : Place
  p = place_at w.bank u.place

  pub upload-is-open : OpenUpload w.bank.clock w.bank.openings h p (part_at w.orders u.place)
  upload-is-open = subst (λ (z : Use). PlaceKept z w.bank.clock w.bank.openings h p (part_at w.orders u.place)) u.used
      (place_kept v u.place u.inside)

  pub find-own : find_upload s t w.bank ≡ u.place
  unfolding find_upload
  find-own =
      let long = v.state.sizes.places in
      let own = is-upload s t p u.used u.subscriber u.transaction in
      let inside = u.inside in
      let most : find_upload s t w.bank ≤ u.place =
      first-at-most (is_upload s t) w.bank.places no_place u.place (omega arith) own in
      let passes = first_passes (is_upload s t) w.bank.places no_place (omega arith) in
      let f = upload-found s t (place_at w.bank (find_upload s t w.bank)) passes in
      let a : is_free (place_at w.bank (find_upload s t w.bank)).used ≡ false = ap is_free f.0 in
      let b : is_free p.used ≡ false = ap is_free u.used in
      let e : (place_at w.bank (find_upload s t w.bank)).transaction ≡ p.transaction = bits-same _ t f.2 ∙ sym u.transaction in
      v.state.places_apart (find_upload s t w.bank) u.place (omega arith) u.inside a b (inl (ap (λ (z : Bits128). z.low) e))

-- ---- the next segment fits

judge-take : (p : Place) (q : Fields) → segment q ≡ p.taken + 1 → last_mark q ≡ last_mark_of (segment q) p.segments →
    judge_upload asks.UploadTransfer p q ≡ takes p
unfolding judge_upload upload_rows segment_rows upload_attempt is_underrun is_exceeded
judge-take p q next mark = rw (eq-eqb (segment q) (p.taken + 1) next, early, missing)
  where
    early : ltb (segment q) p.segments && eqb (last_mark q) 1 ≡ false
    early = at (eqb (segment q) p.segments) refl
      where
        at : (b : Bool) → eqb (segment q) p.segments ≡ b → ltb (segment q) p.segments && eqb (last_mark q) 1 ≡ false
        at true e = let z = eqb-true (segment q) p.segments e in rw (le-ltb (segment q) p.segments (omega arith))
        at false e =
            let m : last_mark q ≡ 0 = mark ∙ ap (λ (b : Bool). cond b 1 0) e in
            rw (ne_eqb (last_mark q) 1 (λ z. omega arith)) (and_no (ltb (segment q) p.segments))

    missing : eqb (segment q) p.segments && eqb (last_mark q) 0 ≡ false
    missing = at (eqb (segment q) p.segments) refl
      where
        at : (b : Bool) → eqb (segment q) p.segments ≡ b → eqb (segment q) p.segments && eqb (last_mark q) 0 ≡ false
        at true e =
            let m : last_mark q ≡ 1 = mark ∙ ap (λ (b : Bool). cond b 1 0) e in
            rw (ne_eqb (last_mark q) 0 (λ z. omega arith)) (and_no (eqb (segment q) p.segments))
        at false e = rw e

module _ (context : Context) (w : BankState) (h : List Exchange) (v : Invariant w h) (t : Bits128) (s k n last : ℕ) (u : UploadAt w t s k n last)
    (q : Fields) (d : List ℕ)
    (asked : form q ≡ forms.UploadTransfer) (from : subscriber q ≡ s) (to : transaction q ≡ t) (next : segment q ≡ suc k)
    (mark : last_mark q ≡ last_mark_of (segment q) n) (short : length d ≤ segment_bytes) where
  abbrev own : Place
  own = place_at w.bank u.place

  is_open_now : OpenUpload w.bank.clock w.bank.openings h own (part_at w.orders u.place)
  is_open_now = upload-is-open w h v t s k n last u

  readable : Readable q (length d)
  readable =
      let a = is_open_now.0.place.known in
      let b = is_open_now.0.place.most in
      let c = u.subscriber in
      record { request = ap is_request_form asked; known = omega arith; most = omega arith; short = short }

  found : upload_at w.bank q ≡ u.place
  found = ap (λ (m : ℕ). find_upload m (transaction q) w.bank) from
      ∙ (ap (λ (b : Bits128). find_upload s b w.bank) to ∙ find-own w h v t s k n last u)

  found_inside : upload_at w.bank q < place_count
  found_inside = let e = found in let i = u.inside in omega arith

  judged : judge_upload asks.UploadTransfer own q ≡ takes own
  judged =
      judge-take own q (let e = u.taken in omega arith) (mark ∙ ap (last_mark_of (segment q)) (sym u.segments))

  at_place : judge_transaction asks.UploadTransfer w.bank q
      ≡ verdict.Of (place_at w.bank (upload_at w.bank q)).transaction
      (action.Upload (judge_upload asks.UploadTransfer (place_at w.bank (upload_at w.bank q)) q))
  unfolding judge_transaction transaction_rows judge_open not_open
  at_place = rw (lt-leb place_count (upload_at w.bank q) found_inside, lt-ltb (upload_at w.bank q) place_count found_inside)

  -- the segment is taken
  pub own-verdict : judge context w.bank q (length d) ≡ verdict.Of t (action.Upload (cond (eqb (k + 1) n) up.TookLast up.Took))
  unfolding takes
  own-verdict =
      verdict-by-form context w q d forms.UploadTransfer asked readable
      ∙ (at_place
      ∙ (ap (λ (i : ℕ). verdict.Of (place_at w.bank i).transaction
      (action.Upload (judge_upload asks.UploadTransfer (place_at w.bank i) q))) found
      ∙ (ap (λ (a : UploadAction). verdict.Of own.transaction (action.Upload a)) judged ∙ same)))
    where
      same : verdict.Of own.transaction (action.Upload (cond (eqb (own.taken + 1) own.segments) up.TookLast up.Took))
          ≡ verdict.Of t (action.Upload (cond (eqb (k + 1) n) up.TookLast up.Took))
      same = rw (u.transaction, u.taken, u.segments)

  taken-open : UploadAt (carry_out (verdict.Of t (action.Upload up.Took)) w q d) t s (suc k) n w.bank.clock
  unfolding grown
  taken-open = record {
    place = upload_at w.bank q;
    inside = found_inside;
    used = ap (λ (r : Place). r.used) is ∙ u.used;
    transaction = ap (λ (r : Place). r.transaction) is ∙ u.transaction;
    subscriber = ap (λ (r : Place). r.subscriber) is ∙ u.subscriber;
    taken = ap (λ (r : Place). r.taken) is ∙ (let a = u.taken in omega arith);
    segments = ap (λ (r : Place). r.segments) is ∙ u.segments;
    fitting = ap (λ (r : Place). r.last) is;
  }
    where
      is : place_at (carry_out (verdict.Of t (action.Upload up.Took)) w q d).bank (upload_at w.bank q)
          ≡ grown w.bank.clock (length d) own
      is = get_or-set_same w.bank.places (upload_at w.bank q) _ no_place
          (let a = v.state.sizes.places in let b = found_inside in omega arith)
          ∙ ap (λ (i : ℕ). grown w.bank.clock (length d) (place_at w.bank i)) found

  -- and the upload is open with one segment more, where that was not the last
  pub own_open : suc k < n → UploadAt (respond context w q d).bank_state t s (suc k) n w.bank.clock
  unfolding respond
  own_open below =
      subst (λ (x : Verdict). UploadAt (carry_out x w q d) t s (suc k) n w.bank.clock) (sym (own-verdict ∙ taken)) taken-open
    where
      taken : verdict.Of t (action.Upload (cond (eqb (k + 1) n) up.TookLast up.Took)) ≡ verdict.Of t (action.Upload up.Took)
      taken = ap (λ (b : Bool). verdict.Of t (action.Upload (cond b up.TookLast up.Took))) (ne_eqb (k + 1) n (λ e. omega arith))

-- ---- an opening

-- an upload just opened is open with no segment taken
pub opened-open : (first : ℕ) (w : BankState) (h : List Exchange) → Invariant w h →
    (q : Fields) (d : List ℕ) (t : Bits128) (m : ℕ) {x : Verdict} → Happens first w q d x →
    x ≡ verdict.Of t (action.Upload (up.Opened m)) → UploadAt (carry_out x w q d) t (subscriber q) 0 (segments q) w.bank.clock
unfolding open_upload counted_upload counted
opened-open first w h v q d t m unreadable z = absurd (let y : ◌≡◌ {A = ℕ} 0 1 = cc in omega arith)
opened-open first w h v q d t m (refused c e) z = absurd (let y : ◌≡◌ {A = ℕ} 0 1 = cc in omega arith)
opened-open first w h v q d t m (opens_upload asked a g n inside below) z =
    let is = get_or-set_same w.bank.places (free_place w.bank) _ no_place (let b = v.state.sizes.places in omega arith) in
    record {
      place = free_place w.bank;
      inside = inside;
      used = ap (λ (r : Place). r.used) is;
      transaction = ap (λ (r : Place). r.transaction) is ∙ cc;
      subscriber = ap (λ (r : Place). r.subscriber) is;
      taken = ap (λ (r : Place). r.taken) is;
      segments = ap (λ (r : Place). r.segments) is;
      fitting = ap (λ (r : Place). r.last) is;
    }
opened-open first w h v q d t m (opens_download asked a g n) z = absurd (let y : ◌≡◌ {A = ℕ} 0 1 = cc in omega arith)
opened-open first w h v q d t m (signs c) z = absurd (let y : ◌≡◌ {A = ℕ} 0 1 = cc in omega arith)
opened-open first w h v q d t m (to_upload r a c) z = never (sym (upload-goes-on c.sound) ∙ ap opens z)
opened-open first w h v q d t m (to_download r a c) z = absurd (let y : ◌≡◌ {A = ℕ} 0 1 = cc in omega arith)

-- Where every opening ended, after every list of calls to a fresh bank: by the statuses, so by requests and replies.
use Rattle.bank.specs.declared.mailbox.FileRefusal.{FileRefusal}
use Rattle.number_table.specs.declared.table.WrongLength.{WrongLength}
use Rattle.std.specs.Prelude.{Err, Ok, Result}
use Prim.Native.Nat.{ℕ, ◌+◌, ◌<◌}
use mathlib.Core.Bool.{Bool, not, ◌&&◌}
use mathlib.Core.List.{List, [], ◌∷◌, ◌++◌, map, append-nil, Memᴰ as In}
use mathlib.Core.Path.{◌≡◌, refl, sym, ap, ◌∙◌, subst}
use native.Mathlib.Omega.{arith}
use lib.Dec.{eqb}
use lib.ListN.{length}
use Rattle.frame_table.specs.declared.fields.Bits128.{Bits128}
use Rattle.frame_table.specs.declared.fields.Fields.{Fields}
use Rattle.frame_table.specs.Names.{subscriber, transaction, same_bits}
use Rattle.bank_state.specs.Rows.{count_of}
use Rattle.bank_state.specs.Search.{is_open, open_count}
use Rattle.bank_state.specs.State.{Bank, BankState, place_at}
use Rattle.bank_state.proofs.Found.{upload-found, download-found}
use Rattle.bank_verdicts.specs.declared.verdict.DownloadAction.TheVariants as down
use Rattle.bank_verdicts.specs.declared.verdict.Action.TheVariants as action
use Rattle.bank_verdicts.specs.declared.verdict.Verdict.{Verdict}
use Rattle.bank_verdicts.specs.declared.verdict.Verdict.TheVariants as verdict
use Rattle.bank_verdicts.specs.Judgement.{upload_at}
use Rattle.bank.specs.declared.mailbox.FileRefusal.TheVariants as put
use Rattle.bank.specs.Call.{FrameInput, FrameCall, frame_call}
use Rattle.bank.specs.Mailbox.{file_call}
use Rattle.bank_steps.proofs.Cases.{
  Happens,
  unreadable,
  refused,
  opens_upload,
  opens_download,
  signs,
  to_upload,
  to_download,
}
use Rattle.opening_counts.specs.declared.seven.Counts.{Counts}
use Rattle.opening_counts.specs.Counts.{count_size, seven, sum, with_dropped, verdict_counts, counts_after}
use Rattle.bank_history.specs.FalseEconomies.{Next}
use Rattle.bank_history.specs.History.{
  Exchange,
  BankCall,
  Frame,
  File,
  Past,
  entered,
  placed,
  after,
  start,
  past_of,
  exchange_of,
  call_exchange,
}
use Rattle.bank_history.specs.Invariant.{Invariant}
use Rattle.bank_history.specs.Sound.{Sound, AllSound}
use Rattle.bank_history.specs.Sound as sounds
use Rattle.bank_history.specs.Status.{
  Status,
  drop_idle,
  ended_by_receipt,
  status_after,
  status,
  opened_in,
  openings,
  Numbered,
}
use Rattle.bank_history.specs.Journal.{plain}
use Rattle.bank_history.specs.ByReplies.{opened_count, opened_ids, standing}
use Rattle.bank_history.proofs.ByReplies.{carries, opened-count, opened-ids, standing-is}
use Rattle.bank_history.proofs.Closed.{acted-open}
use Rattle.bank_history.proofs.Counts.{count_same}
use Rattle.bank_history.proofs.Drops.{open-listed, opened-numbered, call-drops}
use Rattle.bank_history.proofs.GoesOn.{upload-goes-on, download-goes-on}
use Rattle.bank_history.proofs.Keeps.{past-holds}
use Rattle.bank_history.proofs.NextCall.{judged_bank, judged-holds, all_sound, clock-is, case-is}
use Rattle.bank_history.proofs.Plain.{ids-plain, standing-plain}
use Rattle.bank_history.proofs.Statuses.{Told, open-shown, advanced-told, past-told}
use Rattle.bank_counts.specs.Counts.{
  way_of,
  ends,
  standing_in,
  counts,
  dropped_by,
  others_ended,
  carried_by,
  carried,
}
use Rattle.bank_session.specs.Counts.{gone_by, others_by, counts_over, counts_by}
use Rattle.bank_counts.specs.Statements.{OpeningsEnd}
use Rattle.bank_counts.proofs.Moves.{
  standing_by,
  idle,
  clock-moves,
  clock-counts,
  action-moves,
  Acts,
  EndsOthers,
  verdict-moves,
  same-seven,
  receipt-alone,
  in-seven,
  ways-add,
}
use Rattle.bank_counts.proofs.Moves as moves
use Rattle.bank_counts.proofs.BookedRows.{booked-count}
use Rattle.bank_counts.proofs.OpenRows.{open-count}

-- ---- by replies, by statuses

module _ {h : List Exchange} (r : AllSound h) where
  -- a number that replies tell is the one that statuses tell
  pub by-status : (p : Bits128 → Status → Bool) →
      count_of (λ (t : Bits128). p t (standing t h)) (opened_ids h)
      ≡ count_of (λ (t : Bits128). p t (status t h)) (openings h)
  by-status p =
      count_same (λ (t : Bits128). p t (standing t h)) (λ (t : Bits128). p t (status t h)) (opened_ids h)
      (λ t i. ap (p t) (standing-is t r))
      ∙ ap (count_of (λ (t : Bits128). p t (status t h))) (opened-ids r)

  pub counts-told : counts h ≡ seven (standing_by (λ (t : Bits128). status t h) (openings h))
  unfolding standing_in
  counts-told =
      same-seven (λ (way : ℕ). standing_in way h) (standing_by (λ (t : Bits128). status t h) (openings h))
      (λ way. by-status (λ (t : Bits128) (x : Status). eqb (way_of x) way))

  dropped-told : (clock : ℕ) → dropped_by clock h ≡ idle (λ (t : Bits128). status t h) (openings h) clock
  unfolding dropped_by
  dropped-told clock = by-status (λ (t : Bits128) (x : Status). ends x (drop_idle clock x))

-- ---- what a request is to the openings

module _ (w : BankState) (h : List Exchange) (v : Invariant w h) (σ : Bits128 → Status) (told : Told w σ) where
  -- the number of a new transaction
  next-number : w.bank.openings ≡ length (openings h)
  next-number = v.counted ∙ sym (opened-numbered v.sound).1

  case-acts : {first : ℕ} {q : Fields} {d : List ℕ} {u : Verdict} → Happens first w q d u → Acts σ (openings h) u
  case-acts unreadable = moves.unreadable
  case-acts (refused c z) = moves.refused c
  case-acts (signs c) = moves.signed _ _
  case-acts (opens_upload asked a g n inside below) = moves.opens _ _ (moves.upload _) next-number
  case-acts (opens_download asked a g n) = moves.opens _ _ (moves.download _) next-number
  case-acts {q = q} (to_upload r a s) =
      let i = upload_at w.bank q in
      let z = told.places i s.inside
      (ap is_open (upload-found (subscriber q) (transaction q) (place_at w.bank i) s.found).0) in
      moves.acts _ _ (upload-goes-on s.sound) (open-listed w h v (open-shown told z)) z
  case-acts {q = q} (to_download r a s) =
      let z = told.downloads _ (download-found (subscriber q) (transaction q) _ s.found).0 in
      moves.acts _ _ (download-goes-on s.sound) (open-listed w h v (open-shown told z)) z

-- ---- after a list of calls

pub head-sound : {e : Exchange} {h : List Exchange} → AllSound (e ∷ h) → Sound e h
head-sound (sounds.more s r) = s

pub past-sound : (calls : List BankCall) → AllSound (past_of calls).history
past-sound calls = (past-holds calls).invariant.sound

pub past-numbered : (calls : List BankCall) → Numbered 0 (openings (past_of calls).history)
past-numbered calls = (opened-numbered (past-sound calls)).0

-- the bank's open transactions, by the history
past_open : (calls : List BankCall) →
    open_count (past_of calls).bank_state.bank
    ≡ standing_by (λ (t : Bits128). status t (past_of calls).history) (openings (past_of calls).history) 0
past_open calls =
    open-count (past_of calls).bank_state (past_of calls).history (past-holds calls).invariant
    (λ (t : Bits128). status t (past_of calls).history) (past-told calls)

-- each stands in one of the seven ways
pub opened_one : (calls : List BankCall) (t : Bits128) → In t (openings (past_of calls).history) →
    way_of (status t (past_of calls).history) < count_size
opened_one calls t i = in-seven (status t (past_of calls).history) (call-drops.opened calls t i)

each-one : (calls : List BankCall) (t : Bits128) → In t (opened_ids (past_of calls).history) →
    way_of (standing t (past_of calls).history) < count_size
each-one calls t i =
    rw (standing-is t (past-sound calls)) (opened_one calls t (subst (In t) (opened-ids (past-sound calls)) i))

add-up : (calls : List BankCall) → sum (counts (past_of calls).history) ≡ opened_count (past_of calls).history
add-up calls =
    let h = (past_of calls).history in
    ap sum (counts-told (past-sound calls))
    ∙ (ways-add (λ (t : Bits128). status t h) (openings h) (opened_one calls)
    ∙ ((opened-numbered (past-sound calls)).1 ∙ sym (opened-count (past-sound calls))))

-- the bank's number of openings
numbered-as : (calls : List BankCall) →
    sum (counts (past_of calls).history) ≡ (past_of calls).bank_state.bank.openings
numbered-as calls =
    add-up calls ∙ (opened-count (past-sound calls) ∙ sym (past-holds calls).invariant.counted)

-- request, reply and clock alone
counts-plain : (h : List Exchange) → counts (map plain h) ≡ counts h
unfolding standing_in
counts-plain h =
    same-seven (λ (way : ℕ). standing_in way (map plain h)) (λ (way : ℕ). standing_in way h)
    (λ way.
    count_same (λ (t : Bits128). eqb (way_of (standing t (map plain h))) way)
    (λ (t : Bits128). eqb (way_of (standing t h)) way) (opened_ids (map plain h))
    (λ t i. ap (λ (x : Status). eqb (way_of x) way) (standing-plain t h))
    ∙ ap (count_of (λ (t : Bits128). eqb (way_of (standing t h)) way)) (ids-plain h))

-- ---- an answered frame

module _ {calls : List BankCall} {e : Exchange} (n : Next calls e) where
  abbrev h : List Exchange
  h = (past_of calls).history

  abbrev before : Bits128 → Status
  before t = status t h

  -- as the request is judged
  abbrev pub judged : Bits128 → Status
  judged t = drop_idle e.clock (status t h)

  pub judged-told : Told (judged_bank n) judged
  judged-told =
      subst (λ (c : ℕ). Told (judged_bank n) (λ (t : Bits128). drop_idle c (status t h))) (sym (clock-is n))
      (advanced-told n.input.time (past_of calls).bank_state (past-holds calls).invariant.state.sizes before
      (past-told calls))

  judged-open : open_count (judged_bank n).bank ≡ standing_by judged (openings h) 0
  judged-open = open-count (judged_bank n) h (judged-holds n) judged judged-told

  pub the-acts : Acts judged (openings h) e.verdict
  the-acts = case-acts (judged_bank n) h (judged-holds n) judged judged-told (case-is n)

  -- the receipt of e ends it
  abbrev emptied : Status → Bool
  emptied x = ends x (ended_by_receipt (subscriber e.request) x)

  others-told : EndsOthers judged (openings h) (past-numbered calls) e e.verdict (others_ended e h)
  unfolding others_ended
  others-told t own =
      by-status (past-sound calls)
      (λ (x : Bits128) (y : Status). not (same_bits x (transaction e.reply)) && emptied (drop_idle e.clock y))
      ∙ ap (λ (u : Bits128). count_of (λ (x : Bits128). not (same_bits x u) && emptied (judged x)) (openings h))
      (carries (head-sound (all_sound n)) own (λ z. let y : ◌≡◌ {A = ℕ} 0 1 = cc in omega arith))

  -- how they stand after it
  after-told : counts (e ∷ h) ≡
      seven
      (standing_by (λ (t : Bits128). status_after t e.verdict e (judged t)) (openings h ++ opened_in e.verdict))
  unfolding status openings
  after-told = counts-told (all_sound n)

  pub counts-moved : counts (e ∷ h) ≡ counts_after e.verdict (dropped_by e.clock h) (others_ended e h) (counts h)
  counts-moved =
      after-told
      ∙ (verdict-moves judged (openings h) (past-numbered calls) e the-acts (others_ended e h) others-told
      ∙ ap (verdict_counts e.verdict (others_ended e h))
      (clock-counts before (openings h) e.clock
      ∙ (ap (λ (k : ℕ). with_dropped k (seven (standing_by before (openings h))))
      (sym (dropped-told (past-sound calls) e.clock))
      ∙ ap (with_dropped (dropped_by e.clock h)) (sym (counts-told (past-sound calls))))))

  clock-falls : open_count (past_of calls).bank_state.bank ≡ open_count (judged_bank n).bank + dropped_by e.clock h
  clock-falls =
      let a = past_open calls in
      let b = judged-open in
      let c = clock-moves before (openings h) e.clock 0 in
      let d = dropped-told (past-sound calls) e.clock in
      omega arith

  -- the bank's open transactions after it
  after_open : (v : Verdict) → e.verdict ≡ v →
      open_count (past_of (Frame n.input ∷ calls)).bank_state.bank
      ≡ standing_by (λ (t : Bits128). status_after t v e (judged t)) (openings h ++ opened_in v) 0
  unfolding status openings
  after_open v own =
      past_open (Frame n.input ∷ calls)
      ∙ (ap (λ (g : List Exchange). standing_by (λ (t : Bits128). status t g) (openings g) 0) n.entered
      ∙ ap (λ (u : Verdict). standing_by (λ (t : Bits128). status_after t u e (judged t)) (openings h ++ opened_in u) 0)
      own)

  receipt-falls : (t : Bits128) → e.verdict ≡ verdict.Of t (action.Download down.Confirmed) →
      open_count (judged_bank n).bank
      ≡ open_count (past_of (Frame n.input ∷ calls)).bank_state.bank + 1 + others_ended e h
  receipt-falls t own =
      let k = action.Download down.Confirmed in
      let z = (acted-open n t k own refl).2 in
      let i = open-listed (judged_bank n) h (judged-holds n) (open-shown judged-told z) in
      let a = judged-open in
      let b = after_open (verdict.Of t k) own ∙ ap (λ (l : List Bits128). standing_by
      (λ (x : Bits128). status_after x (verdict.Of t k) e (judged x)) l 0) (append-nil (openings h)) in
      let c = action-moves judged (openings h) e t k (past-numbered calls) i z 0 in
      let d = others-told t own in
      omega arith

-- ---- carried from call to call

placed-history : (a : Result (Unit {0}) FileRefusal) (b : Bank) (mailboxes : List ℕ) (p : Past) →
    (placed a b mailboxes p).history ≡ p.history
placed-history (Ok u) b mailboxes p = refl
placed-history (Err put.WrongLength) b mailboxes p = refl
placed-history (Err put.NoMailbox) b mailboxes p = refl
placed-history (Err put.WrongFile) b mailboxes p = refl
placed-history (Err put.MailboxFull) b mailboxes p = refl

-- a frame call, by the falls of the bank's open transactions
pub frame-carried : (calls : List BankCall) (a : FrameInput) →
    carried_by (Frame a) (past_of calls) (counts (past_of calls).history) ≡ counts (past_of (Frame a ∷ calls)).history
unfolding past_of after counts_over exchange_of
frame-carried calls a = at left.answer refl
  where
    p : Past
    p = past_of calls

    w : BankState
    w = p.bank_state

    left : FrameCall
    left = frame_call w a

    e : Exchange
    e = call_exchange w a

    at : (x : Result ℕ WrongLength) → left.answer ≡ x →
        counts_by x (counts_over w a (counts p.history)) (counts p.history)
        ≡ counts (entered x left.bank_state e p).history
    at (Ok m) z =
        let n : Next calls e = record {
          input = a;
          entered = ap (λ (x : Result ℕ WrongLength). (entered x left.bank_state e p).history) z;
        } in
        let bank : open_count (past_of (Frame a ∷ calls)).bank_state.bank ≡ open_count left.bank_state.bank =
        ap (λ (x : Result ℕ WrongLength). open_count (entered x left.bank_state e p).bank_state.bank) z in
        let gone : gone_by w a ≡ dropped_by e.clock p.history = (let f = clock-falls n in omega arith) in
        receipt-alone e.verdict (others_by w a) (others_ended e p.history)
        (with_dropped (gone_by w a) (counts p.history))
        (λ t own. let f = receipt-falls n t own in omega arith)
        ∙ (ap (λ (k : ℕ). counts_after e.verdict k (others_ended e p.history) (counts p.history)) gone
        ∙ sym (counts-moved n))
    at (Err e) z = refl

carried-is : (calls : List BankCall) → carried calls ≡ counts (past_of calls).history
unfolding carried past_of after start standing_in opened_ids count_of
carried-is [] = refl
carried-is (File mailbox file ∷ calls) =
    let w = (past_of calls).bank_state in
    let c = file_call w.bank mailbox file w.mailboxes in
    carried-is calls ∙ ap counts (sym (placed-history c.answer c.bank c.mailboxes (past_of calls)))
carried-is (Frame a ∷ calls) = ap (carried_by (Frame a) (past_of calls)) (carried-is calls) ∙ frame-carried calls a

pub openings-end : OpeningsEnd
openings-end = record {
  one = each-one;
  adds = add-up;
  accepted = numbered-as;
  alone = counts-plain;
  still_open = λ calls. past_open calls ∙ sym (ap (λ (c : Counts). c.pending) (counts-told (past-sound calls)));
  booked = λ calls. booked-count calls ∙ sym (ap (λ (c : Counts). c.booked) (counts-told (past-sound calls)));
  moved = counts-moved;
  clocked = clock-falls;
  confirmed = receipt-falls;
  carries = carried-is;
}

-- What marking's loop keeps from call to call. Assumes nothing.
use Rattle.std.specs.Prelude.{Ok}
use Prim.Native.Nat.{ℕ, suc, ◌+◌, ◌*◌, ◌≤◌}
use mathlib.Core.Bool.{true, false}
use mathlib.Core.List.{List, [], ◌++◌, append_assoc, append-nil}
use mathlib.Core.Path.{◌≡◌, sym, ap, ◌∙◌}
use native.Mathlib.Omega.{arith}
use lib.ListN.{length, drop, replicate}
use lib.Seq.{drop-drop}
use native.Mathlib.Nat.{add_assoc}
use Rattle.frame_table.specs.declared.fields.Fields.{Fields}
use Rattle.frame_reader.specs.Reader.{read_request}
use Rattle.print.specs.Text.{Put}
use Rattle.print.proofs.Texts.{put-length, put-nothing, put_then}
use Rattle.bank_state.specs.Limits.{id_bytes}
use Rattle.bank_rows.specs.State.{bank_of}
use Rattle.bank.specs.Call.{frame_input}
use Rattle.bank_steps.specs.Lent.{Lent}
use Rattle.bank.specs.Lent.{LentFrameCall, lent_frame_call}
use Rattle.marker_session.specs.declared.mark.Marked.{Marked}
use Rattle.marker_session.specs.Lines.{line_room, head_bytes, time_of, size_of, frame_in, line_of, coded_line}
use Rattle.marker_session.specs.Marking.{MarkerState, marker_state, is_ready, call_of, called, called_line, calls_to, lines_to, lines_in}
use Rattle.marker_session.specs.Marking.{state_of, Print, print_of, marked_next, marked_all, offset_clock, Clocked}
use Rattle.marker_session.proofs.Clock.{offset-clock, left-clocked}
use Rattle.marker_session.proofs.Calls.{calls-turn, lines-turn, calls-none, lines_none}
use Rattle.marker_session.proofs.Texts.{line-most, coded-line, call-code}

line-fits : (s : MarkerState) → length (called_line s) ≤ line_room
unfolding called_line
line-fits s = line-most _ _ _ _ _

-- one call and its line: what its parts say, put together
module _ (input : List ℕ) (memory : Lent) (buffer output : List ℕ) (m : Marked) where
  abbrev here : MarkerState
  here = state_of m input memory buffer

  pub marked-call : (rest : List ℕ) → rest ≡ drop m.used input → (time : ℕ) → time ≡ time_of rest
      → (frame : List ℕ) → frame ≡ frame_in rest → (size : ℕ) → size ≡ size_of rest
      → (k : LentFrameCall) → k ≡ lent_frame_call memory (frame_input time (replicate id_bytes 0) frame buffer)
      → Clocked memory.rows → (clock : ℕ) → clock ≡ (bank_of k.lent.rows).clock
      → (q : Fields) → q ≡ read_request frame → (output' : List ℕ) (written : ℕ)
      → Put output m.written (coded_line (m.calls + 1) k.answer k.code q clock) output' written
      → ◌≡◌ {A = Print} (record {
        state = marker_state (m.calls + 1) (drop (m.used + head_bytes + size) input) k.lent k.buffer;
        output = output';
        written = written;
      }) (marked_next m.written here output) × Clocked k.lent.rows
  unfolding called called_line call_of
  marked-call rest er time et frame ef size es k e timed clock ec q eq output' written put =
      let is : k ≡ call_of here = e ∙ rw (et, ef, er) in
      let brought : frame ≡ frame_in (drop m.used input) = ef ∙ ap frame_in er in
      let kept : (n : ℕ) → k.answer ≡ Ok n → clock ≡ offset_clock here =
      λ n h. ec ∙ ap (λ (x : LentFrameCall). (bank_of x.lent.rows).clock) is
      ∙ sym (offset-clock here timed n (ap (λ (x : LentFrameCall). x.answer) (sym is) ∙ h)) in
      let line : coded_line (m.calls + 1) k.answer k.code q clock ≡ called_line here
      = ap (λ (f : Fields). coded_line (m.calls + 1) k.answer k.code f clock) eq
      ∙ coded-line (m.calls + 1) k.answer k.buffer k.code frame (call-code memory _ k e) kept
      ∙ ap (λ (x : LentFrameCall). line_of (m.calls + 1) x.answer x.buffer frame (offset_clock here)) is
      ∙ ap (λ (l : List ℕ). line_of (m.calls + 1) (call_of here).answer (call_of here).buffer l (offset_clock here))
      brought in
      let said : size ≡ size_of (drop m.used input) = es ∙ ap size_of er in
      (rw (put.bytes, put.place, line, is, said, drop-drop, add_assoc), left-clocked memory _ timed k e)

-- marking from s into the output old: so many lines are left, and the text is written
pub record Marking (s : MarkerState) (input old : List ℕ) (left : ℕ) (m : Marked) (memory : Lent) (buffer output : List ℕ) : Type 0 where
  pub text : List ℕ
  pub calls : calls_to (lines_in (length old)) s ≡ calls_to left (state_of m input memory buffer)
  pub lines : lines_to (lines_in (length old)) s ≡ text ++ lines_to left (state_of m input memory buffer)
  pub put : Put old 0 text output m.written
  pub room : m.written + left * line_room ≤ length old

module _ (s : MarkerState) (input old : List ℕ) (m : Marked) (memory : Lent) (buffer output : List ℕ) where
  abbrev now : MarkerState
  now = state_of m input memory buffer

  -- at the start, and after one more call
  pub marking-begin : (left : ℕ) → left ≡ lines_in (length old) → now ≡ s → output ≡ old → m.written ≡ 0
      → Marking s input old left m memory buffer output
  marking-begin left e t o z = record {
    text = [];
    calls = ap (λ (x : MarkerState). calls_to (lines_in (length old)) x) (sym t) ∙ ap (λ (n : ℕ). calls_to n now) (sym e);
    lines = ap (λ (x : MarkerState). lines_to (lines_in (length old)) x) (sym t) ∙ ap (λ (n : ℕ). lines_to n now) (sym e);
    put = rw (o, z) (put-nothing old 0 (omega arith));
    room = omega (arith, e, z);
  }

  pub marking-next : (left n : ℕ) → left ≡ suc n → Marking s input old left m memory buffer output
      → is_ready m.calls (drop m.used input) ≡ true
      → (m' : Marked) (memory' : Lent) (buffer' output' : List ℕ)
      → print_of m' input memory' buffer' output' ≡ marked_next m.written now output
      → Marking s input old n m' memory' buffer' output'
  marking-next left n z k e m' memory' buffer' output' p =
      let there : called now ≡ state_of m' input memory' buffer' = ap (λ (x : Print). x.state) (sym p) in
      let fit = line-fits now in
      let place = ap (λ (x : Print). x.written) p in
      record {
        text = k.text ++ called_line now;
        calls = k.calls ∙ ap (λ (i : ℕ). calls_to i now) z ∙ calls-turn now n e ∙ ap (λ (x : MarkerState). calls_to n x) there;
        lines = k.lines ∙ ap (λ (i : ℕ). k.text ++ lines_to i now) z ∙ ap (λ (l : List ℕ). k.text ++ l) (lines-turn now n e)
            ∙ sym (append_assoc k.text (called_line now) (lines_to n (called now)))
            ∙ ap (λ (x : MarkerState). (k.text ++ called_line now) ++ lines_to n x) there;
        put = put_then k.put (record {
          place = place;
          fits = omega (arith, put-length k.put, k.room, z);
          bytes = ap (λ (x : Print). x.output) p;
        });
        room = omega (arith, k.room, z);
      }

  ended : (left : ℕ) → Marking s input old left m memory buffer output → calls_to left now ≡ now → lines_to left now ≡ []
      → print_of m input memory buffer output ≡ marked_all s old
  ended left k c l =
      rw (k.calls ∙ c, k.lines ∙ ap (λ (x : List ℕ). k.text ++ x) l ∙ append-nil k.text, k.put.place, k.put.bytes)

  pub marking-none : (left : ℕ) → Marking s input old left m memory buffer output
      → is_ready m.calls (drop m.used input) ≡ false
      → print_of m input memory buffer output ≡ marked_all s old
  marking-none left k e = ended left k (calls-none now left e) (lines_none now left e)

  pub marking-full : (left : ℕ) → Marking s input old left m memory buffer output → left ≡ 0
      → print_of m input memory buffer output ≡ marked_all s old
  unfolding calls_to lines_to
  marking-full left k e = ended left k (ap (λ (n : ℕ). calls_to n now) e) (ap (λ (n : ℕ). lines_to n now) e)

-- A line made, and a message put into one, change nothing of the course: bank, journal and runs are as they were, and the
-- lines' memory keeps its lengths. Assumes nothing.
use Prim.Native.Nat.{ℕ, ◌-◌, ◌≤◌, ◌<◌}
use mathlib.Core.Bool.{Bool, true, false, cond}
use mathlib.Core.List.{List}
use mathlib.Core.Path.{◌≡◌, refl}
use native.Mathlib.Omega.{arith}
use Rattle.exchange.specs.Course.{Course}
use Rattle.unit_state.specs.declared.answer.Answer.TheVariants.{NoCall}
use Rattle.unit_state.specs.declared.record.Kind.TheVariants as kind
use Rattle.unit_state.specs.Records.{line_of, seed_of, body_of, line_count, call_of}
use Rattle.unit_state.proofs.Parts.{callable, line-within}
use Rattle.unit_rows.specs.Lines.{row_at, is_made, made_at}
use Rattle.unit.specs.State.{State}
use Rattle.unit.specs.Call.{UnitCall, unchanged, line_index, make_step, put_step, put_in_step}
use Rattle.unit_lines.proofs.Parts.{made-rows, put-rows, put-stores}
use Rattle.sessions.proofs.Standing.{Standing}

line-inside : (n : ℕ) → (1 ≤ n) × (n ≤ line_count) → n - 1 < line_count
line-inside n h = omega arith

module _ {u : State} {s : Course} (v : Standing u s) (r : List ℕ) where
  pub make-standing : call_of r ≡ kind.MakeLine → Standing (make_step u r).state s
  unfolding make_step made_at
  make-standing e =
      let inside = line-inside (line_of r) (line-within (line_of r) (callable r kind.MakeLine refl e).within) in
      record {
        listed = v.listed;
        stores = v.stores;
        bank = v.bank;
        journal = v.journal;
        count = v.count;
        payloads = v.payloads;
        files = v.files;
        room = v.room;
        image = v.image;
        line-rows = made-rows u.memory.lines v.line-rows v.line-stores (line_index r) inside (seed_of r);
        line-stores = v.line-stores;
        runs = v.runs;
      }

  put-standing : line_index r < line_count → Standing (put_step u r).state s
  unfolding put_step
  put-standing inside =
      let m = u.memory.lines in
      let x = body_of kind.PutIn r in
      record {
        listed = v.listed;
        stores = v.stores;
        bank = v.bank;
        journal = v.journal;
        count = v.count;
        payloads = v.payloads;
        files = v.files;
        room = v.room;
        image = v.image;
        line-rows = put-rows m v.line-rows v.line-stores (line_index r) inside x u.memory.buffer;
        line-stores = put-stores m v.line-rows v.line-stores (line_index r) inside x u.memory.buffer;
        runs = v.runs;
      }

  either : (t : Bool) (x : UnitCall) → Standing x.state s → Standing (cond t x (unchanged u NoCall)).state s
  either true x h = h
  either false x h = v

  pub put-in-standing : call_of r ≡ kind.PutIn → Standing (put_in_step u r).state s
  unfolding put_in_step
  put-in-standing e =
      let inside = line-inside (line_of r) (line-within (line_of r) (callable r kind.PutIn refl e).within) in
      either (is_made (row_at u.memory.lines.rows (line_index r))) (put_step u r) (put-standing inside)

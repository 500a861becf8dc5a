-- The calls of the rows in fewer steps: no call changes the lengths of the stores, so a frame call does not walk them to
-- see that they are right. Assumes nothing.
use Prim.Native.Nat.{ℕ, zero, suc, ◌≤◌, ◌<◌}
use mathlib.Core.List.{List, [], ◌∷◌, ◌++◌, map}
use mathlib.Core.Path.{◌≡◌, refl, sym, ap, ◌∙◌, subst}
use native.Mathlib.Omega.{arith}
use lib.Dec.{leb}
use lib.ListN.{length, replicate, get_or, length-replicate}
use borrow.Author.Tests.{eq-eqb}
use Rattle.octets.proofs.Tests.{never}
use Rattle.frame_table.specs.declared.fields.Fields.{Fields}
use Rattle.frame_table.specs.Table.{last_time}
use Rattle.frame_writer.specs.Writer.{frame_of}
use Rattle.bank_state.specs.declared.state.Place.{Place}
use Rattle.bank_state.specs.Limits.{place_count, store_bytes, id_bytes, reply_room, max_openings, series_limit}
use Rattle.bank_state.specs.Rows.{count_of}
use Rattle.bank_state.specs.Search.{is_free, open_count, open_count_of}
use Rattle.bank_state.specs.State.{BankState, fresh}
use Rattle.bank_state.specs.Store.{part_at}
use Rattle.bank_admitted.specs.State.{Sizes, PlaceHolds, total, is_ahead, chosen_ahead, StateHolds}
use Rattle.bank_admitted.proofs.Fresh.{fresh-place, fresh-download, fresh-state}
use Rattle.bank_admitted.proofs.Rows.{get_d-free}
use Rattle.bank_admitted.proofs.Keeps.{frame-keeps-state, file-keeps-state}
use Rattle.bank.specs.Call.{FrameCall, FrameInput, frame_input, lent_right, frame_call}
use Rattle.case_rows.specs.Rows.{reply_in}
use Rattle.case_rows.proofs.Calls.{frame_by, frame-by}
use Rattle.case_rows.proofs.Computing.{frames, messages, bank, signings, choices}
use Rattle.cases.specs.Table.{
  HostCall,
  put,
  request,
  counting,
  Start,
  new,
  last_of_series,
  last_of_all,
  started,
  Played,
  called,
  played,
  after,
  Question,
  each_from,
  booked,
  signers,
  numbers,
  booked_in,
  signers_in,
  come,
}

-- ---- one call

abbrev input_of : ℕ → Fields → List ℕ → FrameInput
input_of time q d = frame_input time (replicate id_bytes 0) (frame_of q d) (replicate reply_room 0)

module _ (w : BankState) (sizes : Sizes w) where
  right : (time : ℕ) (q : Fields) (d : List ℕ) → lent_right w (input_of time q d) ≡ leb time last_time
  unfolding lent_right
  right time q d =
      rw (
        eq-eqb (length w.orders) store_bytes sizes.orders,
        eq-eqb (length w.mailboxes) store_bytes sizes.mailboxes,
      )

  quick-frame : (time : ℕ) (q : Fields) (d : List ℕ) →
      frame_call w (input_of time q d) ≡ frame_by (leb time last_time) w (input_of time q d)
  quick-frame time q d = frame-by w (input_of time q d) (right time q d)

-- ---- one after the other

abbrev after_frame : FrameCall → Played → Played
after_frame c p = record { bank = c.bank_state; replies = p.replies ++ (reply_in c.answer c.buffer ∷ []) }

abbrev quick_called : HostCall → Played → Played
quick_called (put n) p = called (put n) p
quick_called (request time q d) p = after_frame (frame_by (leb time last_time) p.bank (input_of time q d)) p

unfoldable pub quick_played : List HostCall → Played → Played
quick_played [] p = p
quick_played (c ∷ l) p = quick_played l (quick_called c p)

same-called : (c : HostCall) (p : Played) → StateHolds p.bank → called c p ≡ quick_called c p
unfolding called
same-called (put n) p v = refl
same-called (request time q d) p v = ap (λ (c : FrameCall). after_frame c p) (quick-frame p.bank v.sizes time q d)

called-keeps : (c : HostCall) (p : Played) → StateHolds p.bank → StateHolds (called c p).bank
unfolding called
called-keeps (put n) p v = file-keeps-state p.bank v 1 (replicate n 7)
called-keeps (request time q d) p v = frame-keeps-state p.bank v (input_of time q d)

same-played : (l : List HostCall) (p : Played) → StateHolds p.bank → played l p ≡ quick_played l p
unfolding played quick_played
same-played [] p v = refl
same-played (c ∷ l) p v =
    same-played l (called c p) (called-keeps c p v) ∙ ap (quick_played l) (same-called c p v)

-- ---- where they start

-- what is said of a fresh bank, and the counts
counting-state : (openings uploads : ℕ) → openings ≤ max_openings → uploads ≤ series_limit → uploads ≤ openings →
    StateHolds (counting openings uploads)
unfolding fresh total is_ahead chosen_ahead open_count open_count_of count_of
counting-state openings uploads a b c = record {
  sizes = record {
    places = refl;
    downloads = refl;
    nonces = refl;
    files = refl;
    series = refl;
    orders = length-replicate {A = ℕ} store_bytes 0;
    mailboxes = length-replicate {A = ℕ} store_bytes 0;
  };
  numbers = a;
  series = record { limited = limited; counted = omega arith };
  orders = λ i l f. never (sym f ∙ ap (λ (p : Place). is_free p.used) (fresh-place i));
  places = λ i l.
      rw (fresh-place i)
      (subst (λ (p : Place). PlaceHolds p.used 0 0 p (part_at (replicate store_bytes 0) i)) (fresh-place i)
      (fresh-state.places i l));
  downloads = λ j. rw (fresh-download j) refl;
  mailboxes_hold = fresh-state.mailboxes_hold;
  places_apart = fresh-state.places_apart;
  apart = fresh-state.apart;
  in_order = fresh-state.in_order;
  nonces = fresh-state.nonces;
  open_all = fresh-state.open_all;
  open_of = fresh-state.open_of;
}
  where
    limited : (i : ℕ) → i < place_count → get_or (uploads ∷ replicate 7 0) i 0 ≤ series_limit
    limited zero l = b
    limited (suc i) l = rw (get_d-free {A = ℕ} 0 7 i) (omega arith)

started-state : (s : Start) → StateHolds (started s)
started-state new = fresh-state
started-state last_of_series = counting-state 1213055 1213055 (omega arith) (omega arith) (omega arith)
started-state last_of_all = counting-state 4294967295 0 (omega arith) (omega arith) (omega arith)

-- ---- every question of the table

abbrev quick_after : Start → List HostCall → Played
quick_after s l = quick_played l (record { bank = started s; replies = [] })

same_after : (s : Start) (l : List HostCall) → after s l ≡ quick_after s l
same_after s l = same-played l (record { bank = started s; replies = [] }) (started-state s)

abbrev pub quick : Question → List ℕ
quick (each_from s g l) = map g (quick_after s l).replies
quick (booked l) = booked_in (quick_after new l) ∷ []
quick (signers l) = signers_in (quick_after new l)
quick (numbers l) = l

pub same : (c : Question) → come c ≡ quick c
same (each_from s g l) = ap (λ (p : Played). map g p.replies) (same_after s l)
same (booked l) = ap (λ (p : Played). booked_in p ∷ []) (same_after new l)
same (signers l) = ap signers_in (same_after new l)
same (numbers l) = refl

-- what they compute with
unfoldable pub calls : ℕ
unfolding frames messages bank signings choices called quick_played
calls = 0

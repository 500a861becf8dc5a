-- The verdicts on a signing, each with the facts that led to it. Assumes nothing.
use Prim.Native.Nat.{ℕ, ◌+◌, ◌<◌, ◌≤◌}
use mathlib.Core.Bool.{Bool, true, false, ◌&&◌, ◌||◌}
use mathlib.Core.List.{List, []}
use mathlib.Core.Path.{◌≡◌, refl, sym, ◌∙◌}
use lib.Dec.{ltb, leb, eqb}
use borrow.Author.Tests.{eqb-true, ltb-false, leb-true, leb-false, not-true, not-false}
use Rattle.frame_table.specs.declared.fields.Fields.{Fields}
use Rattle.frame_table.specs.Names.{order_type, nonce, timestamp, owner}
use Rattle.octets.proofs.Tests.{never, and-true, or-neither}
use Rattle.message.specs.declared.codes.ReturnCode.{ReturnCode}
use Rattle.message.specs.declared.codes.ReturnCode.TheVariants as code
use Rattle.message.specs.Limits.{ful, fdl, subscribers}
use Rattle.message.specs.OrderNumbers.{order_number_of}
use Rattle.bank_state.specs.State.{Bank}
use Rattle.bank_state.specs.Limits.{place_count, nonce_count, window}
use Rattle.bank_state.specs.Search.{is_booked, free_nonce, is_remembered}
use Rattle.bank_state.specs.declared.state.Place.{Place}
use Rattle.bank_state.specs.declared.state.Use.{Use}
use Rattle.bank_state.specs.declared.state.Use.TheVariants.{Free, Open, Booked}
use Rattle.bank_verdicts.specs.declared.verdict.Context.{Context}
use Rattle.message.specs.declared.directions.Direction.{Direction}
use Rattle.message.specs.declared.directions.Direction.TheVariants as direction
use Rattle.bank_verdicts.specs.declared.verdict.Verdict.{Verdict}
use Rattle.bank_verdicts.specs.declared.verdict.Verdict.TheVariants.{Unreadable, Refused, Of, Signed}
use Rattle.bank_verdicts.specs.Refusals.{Row, cancels, unknown_type, opening_rows}
use Rattle.bank_verdicts.specs.Refusals.{no_owner, signs_download, is_order, not_booked, no_memory, signing_rows}
use Rattle.bank_verdicts.specs.Judgement.{accepted, judge_opening, order_at, signed, judge_signing}
use Rattle.bank_verdicts.proofs.Lines.{Fail, judged-by, each-such, not-given}
use Rattle.bank_verdicts.proofs.Sound.{is_harmless, no-replay}

-- a signing that no line refuses
pub record Signable (b : Bank) (q : Fields) : Type 0 where
  pub known : 1 ≤ owner q
  pub most : owner q ≤ subscribers
  pub upload : order_type q ≡ ful
  pub timely : leb b.clock (timestamp q + window) ≡ true
  pub ahead : timestamp q ≤ b.clock + window
  pub unseen : is_remembered (nonce q) b ≡ false
  pub inside : order_at b q < place_count
  pub memory : free_nonce b < nonce_count

-- it is refused with a code that cancels nothing, or signs
pub data SigningSound (b : Bank) (q : Fields) : Verdict → Type 0 where
  unsigned : (c : ReturnCode) → cancels c ≡ false → SigningSound b q (Refused c)
  signs : Signable b q → SigningSound b q (signed b q)

-- a type that is known and not FDL is FUL
full : (q : Fields) → unknown_type q ≡ false → signs_download q ≡ false → order_type q ≡ ful
unfolding unknown_type signs_download
full q known other =
    eqb-true (order_type q) ful
    (first (eqb (order_type q) ful) (eqb (order_type q) fdl) (not-false _ known) other)
  where
    first : (s t : Bool) → s || t ≡ true → t ≡ false → s ≡ true
    first true t h k = refl
    first false t h k = never (sym k ∙ h)

module _ (b : Bank) (q : Fields) where
  harmless : (v : Verdict) → is_harmless v ≡ true → SigningSound b q v
  harmless Unreadable h = never h
  harmless (Refused c) h = unsigned c (not-true (cancels c) h)
  harmless (Of t a) h = never h
  harmless (Signed n added) h = never h

  signable : Fail (signing_rows b q) → Signable b q
  unfolding signing_rows no_owner not_booked no_memory
  signable failed =
      let bounds = or-neither (ltb (owner q) 1) (ltb subscribers (owner q)) (failed code.UserUnknown) in
      let fresh = no-replay b q (failed code.MessageReplay) in
      record {
        known = ltb-false (owner q) 1 bounds.0;
        most = ltb-false subscribers (owner q) bounds.1;
        upload = full q (failed code.InvalidOrderType) (failed code.InvalidRequest);
        timely = fresh.1;
        ahead = leb-true (timestamp q) (b.clock + window) fresh.0;
        unseen = fresh.2;
        inside = leb-false place_count (order_at b q) (failed code.OrderIdUnknown);
        memory = leb-false nonce_count (free_nonce b) (failed code.InternalError);
      }

  pub judged-signing : SigningSound b q (judge_signing b q)
  unfolding judge_signing signing_rows
  judged-signing =
      let rows : List (Row Verdict) = signing_rows b q in
      judged-by P rows (signed b q) (each-such P is_harmless harmless [] rows refl) (λ failed. signs (signable failed))
    where
      P : Verdict → Type 0
      P v = SigningSound b q v

-- ---- the order that is found: "open ones do not count"

is-booked : (u : Use) → is_booked u ≡ true → u ≡ Booked
is-booked Free e = never e
is-booked Open e = never e
is-booked Booked e = refl

pub order-found : (s n : ℕ) (p : Place) → is_order s n p ≡ true
    → (p.used ≡ Booked) × (p.subscriber ≡ s) × (order_number_of p.number ≡ n)
unfolding is_order
order-found s n p h =
    let a = and-true (is_booked p.used && eqb p.subscriber s) (eqb (order_number_of p.number) n) h in
    let b = and-true (is_booked p.used) (eqb p.subscriber s) a.0 in
    (is-booked p.used b.0, eqb-true p.subscriber s b.1, eqb-true (order_number_of p.number) n a.1)

-- ---- a signing opens and acts on no transaction, and no opening is a signing

abbrev pub is_signed : Verdict → Bool
is_signed Unreadable = false
is_signed (Refused c) = false
is_signed (Of t a) = false
is_signed (Signed n added) = true

abbrev pub is_acted : Verdict → Bool
is_acted Unreadable = false
is_acted (Refused c) = false
is_acted (Of t a) = true
is_acted (Signed n added) = false

pub signing-acts-not : (b : Bank) (q : Fields) → is_acted (judge_signing b q) ≡ false
unfolding judge_signing signing_rows
signing-acts-not b q = not-given is_acted (signing_rows b q) (signed b q) refl refl

pub opening-signs-not : (d : Direction) (c : Context) (b : Bank) (q : Fields) → is_signed (judge_opening d c b q) ≡ false
unfolding judge_opening opening_rows
opening-signs-not direction.Upload c b q =
    not-given is_signed (opening_rows direction.Upload c.others b q) (accepted direction.Upload c.prefix b q) refl refl
opening-signs-not direction.Download c b q =
    not-given is_signed (opening_rows direction.Download c.others b q) (accepted direction.Download c.prefix b q) refl refl

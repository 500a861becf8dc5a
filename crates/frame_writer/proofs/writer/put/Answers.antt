-- `put` meets its contract. Assumes nothing.
use Rattle.std.proofs.Common.{◌≡◌, ℕ, ◌+◌, List, [], length, refl, sym, ap, ◌∙◌, arith, add-zero}
use Rattle.octets.specs.Bytes.{field_bytes, overwrite}
use Rattle.frame_row.specs.Row.{piece}
use Rattle.frame_writer.specs.Writer.{content_of}
use Rattle.octets.proofs.Numbers.{length-field_bytes, overwrite-nil}
use Rattle.frame_row.proofs.Contents.{piece-none, piece-some}
use Rattle.frame_writer.proofs.Loops.{content-absent, content-stands}
use Rattle.frame_writer.proofs.writer.put.Goals as goal

-- a content c that is not empty stands in its piece
stands : (t : ℕ) (own c : List ℕ) → c ≡ own → (length c ≡ 0 → ⊥)
    → (piece t own ≡ field_bytes t c) × (length (piece t own) ≡ 3 + length c)
stands t own c e n =
    let p : piece t own ≡ field_bytes t c = rw (← e) (piece-some t c n) in
    (p, ap length p ∙ length-field_bytes t c)

pub returns-then-not-has : goal.returns-then-not-has
returns-then-not-has c =
    let a = c.args in
    let h = sym c.has.ensures ∙ c.if-not-has.true in
    let e : piece a.tag (content_of a.tag a.fields.now a.«data».now) ≡ [] =
    rw (content-absent a.tag a.fields.now a.«data».now h) (piece-none a.tag [] refl) in
    (rw e (sym (add-zero _)), rw e (sym (overwrite-nil _ _)))

pub returns-then-n-eq0 : goal.returns-then-n-eq0
returns-then-n-eq0 c =
    let a = c.args in
    let d = c.digits-bytes.ensures in
    let h = sym c.has.ensures ∙ c.if-not-has.false in
    let own = c.content-c.ensures _ _ d.0 d.1 ∙ sym (content-stands a.tag a.fields.now a.«data».now h) in
    let e = piece-none a.tag _ (ap length (sym own) ∙ c.if-n-eq0.true) in
    (rw e (sym (add-zero _)), rw e (sym (overwrite-nil _ _)))

pub put_field-requires : goal.put_field-requires
put_field-requires c =
    let a = c.args in
    let d = c.digits-bytes.ensures in
    let h = sym c.has.ensures ∙ c.if-not-has.false in
    let own = c.content-c.ensures _ _ d.0 d.1 ∙ sym (content-stands a.tag a.fields.now a.«data».now h) in
    let s = stands a.tag _ c.content-c.result.now own c.if-n-eq0.false in
    let k = ap length own in
    (omega (arith, s.1, c.requires.2), omega (arith, c.requires.1))

pub overflow_add-result-2 : goal.overflow_add-result-2
overflow_add-result-2 c =
    let a = c.args in
    let d = c.digits-bytes.ensures in
    let h = sym c.has.ensures ∙ c.if-not-has.false in
    let own = c.content-c.ensures _ _ d.0 d.1 ∙ sym (content-stands a.tag a.fields.now a.«data».now h) in
    omega (arith, (stands a.tag _ c.content-c.result.now own c.if-n-eq0.false).1, c.requires.2)

pub returns : goal.returns
returns c =
    let a = c.args in
    let d = c.digits-bytes.ensures in
    let h = sym c.has.ensures ∙ c.if-not-has.false in
    let own = c.content-c.ensures _ _ d.0 d.1 ∙ sym (content-stands a.tag a.fields.now a.«data».now h) in
    let s = stands a.tag _ c.content-c.result.now own c.if-n-eq0.false in
    let n = s.1 in
    (omega (arith, n), c.put_field.ensures ∙ sym (ap (overwrite a.out.now a.at) s.0))

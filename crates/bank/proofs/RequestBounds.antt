-- The numbers of a request that was read: phase, exchange number and transaction ID in their widths.
use Prim.Native.Nat.{ℕ, ◌<◌}
use mathlib.Core.Bool.{true}
use mathlib.Core.List.{List}
use mathlib.Core.Path.{◌≡◌, refl, sym, ap, ◌∙◌, subst}
use native.Mathlib.Omega.{arith}
use Rattle.frame_table.specs.declared.fields.Fields.{Fields}
use Rattle.octets.specs.Bytes.{Bytes}
use Rattle.frame_table.specs.Names.{phase, form}
use Rattle.frame_reader.specs.Reader.{read_request}
use Rattle.frame_table.specs.Table.{
  tag_count,
  phase_tag,
  exchange_tag,
  transaction_tag,
  data_tag,
  width,
  values_of,
  has,
  is_request_form,
  tags_of,
}
use Rattle.frame_table.proofs.Forms.{form-tags, request-form, request-has}
use Rattle.frame.proofs.Parsed.{number_of, InRow}
use Rattle.frame.proofs.Theorems.{request-halves, request-number}
use Rattle.bank.specs.Call.{InWidth, Bounded}

module _ (s : List ℕ) (bytes : Bytes s) (readable : is_request_form (form (read_request s)) ≡ true) where
  abbrev q : Fields
  q = read_request s

  tags : q.tags ≡ tags_of (form q)
  tags = form-tags q.tags (phase q) (request-form (form q) readable)

  -- the number of a tag that every request has
  in-row : (t : ℕ) → t < tag_count → (t ≡ data_tag → ⊥) → has (tags_of (form q)) t ≡ true → InRow t (number_of t q)
  in-row t m n h = request-number s bytes readable t m n (ap (λ (k : ℕ). has k t) tags ∙ h)

  pub request-in-width : InWidth q
  unfolding width values_of
  request-in-width =
      let h = request-has (form q) readable in
      let p = (in-row phase_tag (omega arith) (λ z. omega arith) h.0).within 1 3 refl in
      let n = (in-row exchange_tag (omega arith) (λ z. omega arith) h.2).fits in
      record {
        some = omega arith;
        most = omega arith;
        numbered = omega arith;
        wide = request-halves s bytes transaction_tag (omega arith);
      }

-- so what was read of bytes is bounded
pub read-bounded : (s : List ℕ) → Bytes s → {q : Fields} → q ≡ read_request s → Bounded q
read-bounded s bytes e = subst Bounded (sym e) (request-in-width s bytes)

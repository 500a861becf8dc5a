-- The numbers of an opening read from a frame of bytes: its nonce in its width, its timestamp at most the last time.
use Prim.Native.Nat.{ℕ, ◌≤◌}
use mathlib.Core.Bool.{true}
use mathlib.Core.List.{List}
use mathlib.Core.Path.{◌≡◌, ap, ◌∙◌}
use native.Mathlib.Omega.{arith}
use Rattle.frame_table.specs.declared.fields.Fields.{Fields}
use Rattle.octets.specs.Bytes.{Bytes}
use Rattle.frame_table.specs.Names.{phase, nonce, timestamp, form}
use Rattle.frame_reader.specs.Reader.{read_request}
use Rattle.frame_table.specs.Table.{last_time, nonce_tag, timestamp_tag, has, is_request_form, tags_of}
use Rattle.frame_table.proofs.Forms.{form-tags, request-form}
use Rattle.frame.proofs.Theorems.{request-halves, request-time}
use Rattle.bank_admitted.specs.Session.{Words}

module _ (s : List ℕ) (bytes : Bytes s) where
  abbrev q : Fields
  q = read_request s

  pub nonce-read : Words (nonce q)
  nonce-read = let h = request-halves s bytes nonce_tag (omega arith) in record { high = h.0; low = h.1 }

  pub timestamp-read : is_request_form (form q) ≡ true → has (tags_of (form q)) timestamp_tag ≡ true → timestamp q ≤ last_time
  timestamp-read readable h =
      let tags = form-tags q.tags (phase q) (request-form (form q) readable) in
      request-time s bytes readable (ap (λ (k : ℕ). has k timestamp_tag) tags ∙ h)

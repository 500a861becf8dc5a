-- A request read as an upload transfer has data: "0B data, 1 or more".
use Prim.Native.Nat.{ℕ, ◌≤◌}
use mathlib.Core.List.{List}
use mathlib.Core.Path.{◌≡◌, ap, ◌∙◌}
use lib.ListN.{length}
use Rattle.frame_table.specs.Forms as forms
use Rattle.frame_table.specs.Names.{phase, form}
use Rattle.frame_reader.specs.Reader.{read_request}
use Rattle.frame_row.specs.Row.{data_of}
use Rattle.frame_table.specs.Table.{data_tag, has, tags_of, is_request_form, is_form}
use Rattle.frame_table.proofs.Forms.{form-tags}
use Rattle.frame.proofs.Theorems.{request-data}

pub transfer-data : (s : List ℕ) → form (read_request s) ≡ forms.UploadTransfer → 1 ≤ length (data_of s)
transfer-data s e =
    let tags = form-tags (read_request s).tags (phase (read_request s)) (ap is_form e) ∙ ap tags_of e in
    request-data s (ap is_request_form e) (ap (λ (m : ℕ). has m data_tag) tags)

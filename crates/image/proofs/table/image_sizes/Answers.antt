-- `image_sizes` meets its contract: the sizes are computed from the fields. Assumes nothing.
use mathlib.Core.Path.{refl}
use Rattle.image.specs.Table.{row_at}
use Rattle.image.specs.Items.{image_sizes, image_items, field_items, content_items, record_items, part_items, store_items, bytes_in, parts_in, store_at}
use Rattle.image.proofs.table.image_sizes.Goals as goal

pub returns : goal.returns
unfolding image_sizes image_items field_items content_items record_items part_items store_items bytes_in parts_in store_at row_at
returns c = refl

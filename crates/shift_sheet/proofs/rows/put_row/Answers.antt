-- The room and the row are of one length.
use Rattle.std.proofs.Common.{◌∙◌, sym, ap, length, length-take-le}
use Rattle.shift_sheet.proofs.Text.{length_row}
use Rattle.shift_sheet.proofs.rows.put_row.Goals as goal

pub copy_from_slice-requires : goal.copy_from_slice-requires
copy_from_slice-requires c = length-take-le 27 c.args.out.now c.requires ∙ sym (ap length c.row_text-text.ensures ∙ length_row _)

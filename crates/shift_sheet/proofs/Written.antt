-- What is written of a session is its sheet. Assumes nothing.
use Rattle.std.proofs.Common.{◌≡◌, List, [], ℕ, Bool, true, false, Option, Some, None, Ok, Err, refl, take}
use Rattle.lease.specs.declared.Manager.{Manager}
use Rattle.lease.specs.declared.Refusal.TheVariants as R
use Rattle.lease.specs.RecordCheck.{record_valid}
use Rattle.shift_sheet.specs.declared.rows.Sheet.{Sheet}
use Rattle.shift_sheet.specs.Sheet.{sheet_text, sheet_on, printed}
use Rattle.shift_sheet.specs.Printed.{record_text}
use Rattle.shift_sheet.proofs.Sheets.{printed-is-text}

put : (text : List ℕ) (sheet : Sheet) → sheet ≡ printed text → take sheet.length sheet.bytes ≡ text
put text sheet e = rw e (printed-is-text text)

-- the bytes of a sheet, as many as its length says
pub sheet_put : (m : Option Manager) (sheet : Sheet) → Ok sheet ≡ sheet_on m → take sheet.length sheet.bytes ≡ record_text m
unfolding sheet_on record_text
sheet_put None sheet e = let same : sheet ≡ printed [] = cc in put [] sheet same
sheet_put (Some m) sheet e = go (record_valid m) refl
  where
    go : (t : Bool) → record_valid m ≡ t → take sheet.length sheet.bytes ≡ sheet_text m
    go true v =
        let is : Ok sheet ≡ Ok (printed (sheet_text m)) = rw v at e in
        let same : sheet ≡ printed (sheet_text m) = cc in
        put (sheet_text m) sheet same
    go false v =
        let none : Ok sheet ≡ Err R.InvalidRecord = rw v at e in
        absurd cc

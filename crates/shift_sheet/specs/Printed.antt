-- What the program sheet prints: the shift sheet of the session that the whole input leads to (rules 15.1, 15.2). Definitions only.
use Rattle.std.specs.Prelude.{ℕ, List, [], Option, None, Some}
use Rattle.lease.specs.declared.Manager.{Manager}
use Rattle.card_stream.specs.declared.session.Session.{Session}
use Rattle.card_stream.specs.Reader.{session_of}
use Rattle.shift_sheet.specs.Sheet.{sheet_text}

-- Without an accepted set-up nothing.
unfoldable pub record_text : Option Manager → List ℕ
record_text None = []
record_text (Some m) = sheet_text m

abbrev pub session_text : Session → List ℕ
session_text s = record_text s.manager

-- What the program prints.
abbrev pub sheet_printed : List ℕ → List ℕ
sheet_printed input = session_text (session_of input)

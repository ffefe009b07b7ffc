-- The two listings that document 01 prints, worked out over the definitions.
-- Assumes nothing.
use mathlib.Core.Path.{◌≡◌, refl}
use Rattle.shape.specs.Text.{bytes}
use Rattle.shape.specs.Bytes.{is_digit, is_capital, is_small, is_letter, is_text}
use Rattle.sheet.specs.Grammar.{is_name_byte}
use Rattle.sheet.specs.Machine.{step}
use Rattle.sheet.specs.Answer.{run, reading_of}
use Rattle.outline.specs.Rows.{name_at, name_end, has_ccy, ccy_at, inside_at, has_text, text_at, rows_from, rows_of}
use Rattle.lister.specs.Listing.{line_of, lines_of, fields_of, decimal_text, text_of, listing_of}

pub three-lines : listing_of (bytes "<Document><A><B>x</B><C Ccy=\"UAH\">1.00</C></A></Document>")
    ≡ bytes "/Document/A/B x\n/Document/A/C[UAH] 1.00\n2 fields\n"
unfolding listing_of text_of lines_of line_of fields_of decimal_text rows_of rows_from name_at name_end has_ccy ccy_at inside_at has_text text_at reading_of run step is_letter is_capital is_small is_digit is_text is_name_byte
three-lines = refl

pub refused-line : listing_of (bytes "<A></A>") ≡ bytes "refused 7 at 4\n"
unfolding listing_of text_of decimal_text reading_of run step is_letter is_capital is_small is_digit is_text is_name_byte
refused-line = refl

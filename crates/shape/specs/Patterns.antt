-- Shapes of a fixed length: a pattern has a class for each byte of the text.
-- Six signs stand for classes of bytes, any other byte for itself, so that the code writes a pattern as it looks: "####-##-##T##:##:##".
-- No shape has one of the six signs as a byte of its own.
use Rattle.std.specs.Prelude.{Bool, true, false, ◌&&◌, cond, List, [], ◌∷◌, ℕ, eqb}
use Prim.Native.Char.{code}
use Rattle.shape.specs.Text.{bytes}
use Rattle.shape.specs.Bytes.{is_digit, is_capital, is_digit_or_capital, is_hex, is_variant, is_text}

abbrev pub digit : ℕ
digit = code "#"

abbrev pub capital : ℕ
capital = code "^"

abbrev pub digit_or_capital : ℕ
digit_or_capital = code "*"

abbrev pub hex : ℕ
hex = code "x"

abbrev pub variant : ℕ
variant = code "y"

abbrev pub text : ℕ
text = code "?"

-- the byte b is of the class c
unfoldable pub within : ℕ → ℕ → Bool
within c b =
    cond (eqb c digit) (is_digit b)
    (cond (eqb c capital) (is_capital b)
    (cond (eqb c digit_or_capital) (is_digit_or_capital b)
    (cond (eqb c hex) (is_hex b)
    (cond (eqb c variant) (is_variant b)
    (cond (eqb c text) (is_text b)
    (eqb b c))))))

-- the text has the pattern's length, and each of its bytes is of its class
unfoldable pub fits : List ℕ → List ℕ → Bool
fits [] [] = true
fits [] (b ∷ s) = false
fits (c ∷ p) [] = false
fits (c ∷ p) (b ∷ s) = within c b && fits p s

-- M, a participant's code: six digits
unfoldable pub code_pattern : List ℕ
code_pattern = bytes "######"

-- three capitals
unfoldable pub currency_pattern : List ℕ
currency_pattern = bytes "^^^"

-- YYYY-MM-DDThh:mm:ss
unfoldable pub time_pattern : List ℕ
time_pattern = bytes "####-##-##T##:##:##"

-- ISO 20022's UUID version 4 pattern: 4 is the version, y the variant
unfoldable pub uetr_pattern : List ℕ
uetr_pattern = bytes "xxxxxxxx-xxxx-4xxx-yxxx-xxxxxxxxxxxx"

-- UA, 8 digits, 19 digits or capitals
unfoldable pub iban_pattern : List ℕ
iban_pattern = bytes "UA########*******************"

-- the school's account: one digit, six-digit code, three capitals
unfoldable pub account_pattern : List ℕ
account_pattern = bytes "#######^^^"

-- the school's message identifier, but for its date: six-digit code, eight digits, eight digits or capitals
unfoldable pub message_pattern : List ℕ
message_pattern = bytes "##############********"

-- S
unfoldable pub sep_pattern : List ℕ
sep_pattern = bytes "SEP"

unfoldable pub asp_pattern : List ℕ
asp_pattern = bytes "ASP"

-- what the name of an original message begins with
unfoldable pub pacs008_pattern : List ℕ
pacs008_pattern = bytes "pacs.008"

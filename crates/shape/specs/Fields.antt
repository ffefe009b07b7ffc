-- What a field's text is: a code, an amount in kopecks, a currency, an account, a message identifier, and the tests of the shapes that
-- are only looked at. Document 01, "Fields", the shapes. Everything is said of any bytes: a text that has not the shape gives nothing.
use Rattle.std.specs.Prelude.{Bool, not, ◌&&◌, ◌||◌, cond, List, [], ◌∷◌, ℕ, ◌+◌, ◌-◌, ◌*◌, leb, ltb, eqb, length, get_or, take, drop, Option, Some, None}
use Prim.Native.Char.{code}
use Rattle.shape.specs.Bytes.{byte_bits, every, is_digit, is_text}
use Rattle.shape.specs.Patterns.{fits, code_pattern, currency_pattern, iban_pattern, account_pattern, message_pattern, sep_pattern, asp_pattern, pacs008_pattern}
use Rattle.shape.specs.Bits.{joined}
use Rattle.shape.specs.Numbers.{digit_value, decimal}
use Rattle.shape.specs.Dates.{is_date}
use Rattle.shape.specs.declared.field.Account.{Account}
use Rattle.shape.specs.declared.field.System.{System}
use Rattle.shape.specs.declared.field.System.TheVariants.{Sep, Asp, Neither}

-- M: six digits
unfoldable pub code_of : List ℕ → Option ℕ
code_of s = cond (fits code_pattern s) (Some (decimal s)) None

-- an amount, its digits before the point, the byte that has to be the point, and the two digits behind it
abbrev pub whole : List ℕ → List ℕ
whole s = take (length s - 3) s

abbrev pub point : List ℕ → ℕ
point s = get_or s (length s - 3) 0

abbrev pub hundredths : List ℕ → List ℕ
hundredths s = drop (length s - 2) s

unfoldable pub kopecks : List ℕ → ℕ
kopecks s = decimal (whole s) * 100 + decimal (hundredths s)

-- the bytes of an amount: 1 to 11 digits, point, two digits
abbrev pub amount_bytes_least : ℕ
amount_bytes_least = 4

abbrev pub amount_bytes_most : ℕ
amount_bytes_most = 14

-- 1 to 11 digits without needless zero in front, point, two digits, above zero
unfoldable pub is_amount : List ℕ → Bool
is_amount s =
    leb amount_bytes_least (length s) && leb (length s) amount_bytes_most
    && every is_digit (whole s) && (eqb (length s) amount_bytes_least || not (eqb (get_or s 0 0) (code "0")))
    && eqb (point s) (code ".") && every is_digit (hundredths s)
    && ltb 0 (kopecks s)

unfoldable pub amount_of : List ℕ → Option ℕ
amount_of s = cond (is_amount s) (Some (kopecks s)) None

-- three bytes as one number
unfoldable pub three_bytes : List ℕ → ℕ
three_bytes s = joined 0 ((byte_bits, get_or s 0 0) ∷ (byte_bits, get_or s 1 0) ∷ (byte_bits, get_or s 2 0) ∷ [])

-- a currency: three capitals
unfoldable pub currency_of : List ℕ → Option ℕ
currency_of s = cond (fits currency_pattern s) (Some (three_bytes s)) None

-- an account: one digit, six-digit code, three capitals. No account has a currency of 0
unfoldable pub account_of : List ℕ → Account
account_of s =
    cond (fits account_pattern s)
    (record { digit = digit_value (get_or s 0 0); code = decimal (take 6 (drop 1 s)); currency = three_bytes (drop 7 s) })
    (record { digit = 0; code = 0; currency = 0 })

-- the code of a good message identifier: six-digit code, a real yyyymmdd, eight digits or capitals
unfoldable pub message_code_of : List ℕ → Option ℕ
message_code_of s =
    cond (fits message_pattern s && is_date (decimal (take 8 (drop 6 s)))) (Some (decimal (take 6 s))) None

unfoldable pub is_iban : List ℕ → Bool
is_iban s = fits iban_pattern s

-- S: `SEP` or `ASP`
unfoldable pub system_of : List ℕ → System
system_of s = cond (fits sep_pattern s) Sep (cond (fits asp_pattern s) Asp Neither)

-- the most bytes of an identifier
abbrev pub identifier_most : ℕ
identifier_most = 35

-- 1 to 35 bytes of a text
unfoldable pub is_identifier : List ℕ → Bool
is_identifier s = leb 1 (length s) && leb (length s) identifier_most && every is_text s

-- an identifier that begins `pacs.008`
unfoldable pub names_pacs008 : List ℕ → Bool
names_pacs008 s = is_identifier s && fits pacs008_pattern (take 8 s)

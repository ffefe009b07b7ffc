-- What reading a sheet gives, worked out by the machine: how many elements and where, or the place of the refusal.
use Rattle.std.specs.Prelude.{cond, List, [], ◌∷◌, ℕ, suc, leb, length, replicate, Some, None}
use Rattle.sheet.specs.Grammar.{sheet_most, element_most}
pub use Rattle.sheet.specs.Right.{Reading, accepted, refused}
use Rattle.sheet.specs.Machine.{Mode, outer, begun, naming, attribute, tagged, texting, ending, between, turning, whole, State, step}

-- the sheet ends at place i
abbrev pub ends : State → Mode → ℕ → Reading
ends st whole i = accepted st.count st.starts st.depths
ends st outer i = refused i
ends st begun i = refused i
ends st (naming n) i = refused i
ends st (attribute p) i = refused i
ends st (tagged ccy) i = refused i
ends st (texting k) i = refused i
ends st (ending r) i = refused i
ends st between i = refused i
ends st turning i = refused i

-- the bytes from place i on
unfoldable pub run : State → ℕ → List ℕ → Reading
run st i [] = ends st st.mode i
run st i (b ∷ s) = elim (step st st.mode i b) [ None ↦ refused i | Some next ↦ run next (suc i) s ]

-- 256 empty places
abbrev pub empty_list : List ℕ
empty_list = replicate element_most 0

abbrev pub start : State
start = record { mode = outer; names = []; count = 0; starts = empty_list; depths = empty_list }

-- a sheet of at most 8,192 bytes is read; a longer one is refused at 8192
unfoldable pub reading_of : List ℕ → Reading
reading_of s = cond (leb (length s) sheet_most) (run start 0 s) (refused sheet_most)

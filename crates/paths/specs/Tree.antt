-- The paths of all fields of document 01, "Fields", as one tree of names, and the node of a path.
-- Which nodes are the fields of which kind is said in the crate of messages, by their paths, and checked against this tree there: a reader who
-- believes that table need not read this one. That no two paths have one node is a theorem (`proofs/Nodes.antt`).
-- `tests/tree.py` writes the numbers and the two tables from that crate's paths.
use Rattle.std.specs.Prelude.{cond, List, [], ◌∷◌, ℕ, zero, suc, ◌-◌, eqb, get_or}
use Rattle.shape.specs.Text.{bytes}
use Rattle.outline.specs.Paths.{same_name}

-- no path of the tree; what stands above the outer element
abbrev pub nowhere : ℕ
nowhere = 0

abbrev pub above : ℕ
above = 1

-- how many nodes there are, these two among them
abbrev pub nodes : ℕ
nodes = 82

-- the bytes of a name with the blanks after it, of which there is one at least
abbrev pub name_wide : ℕ
name_wide = 18

-- the name of each node with blanks after it. Below a node the next ones stand side by side
unfoldable pub names : List (List ℕ)
names =
    bytes "                  "
    ∷ bytes "                  "
    ∷ bytes "Document          "
    ∷ bytes "FIToFICstmrCdtTrf "
    ∷ bytes "LqdyCdtTrf        "
    ∷ bytes "FIToFIPmtStsReq   "
    ∷ bytes "FIToFIPmtStsRpt   "
    ∷ bytes "GrpHdr            "
    ∷ bytes "CdtTrfTxInf       "
    ∷ bytes "MsgHdr            "
    ∷ bytes "LqdyCdtTrf        "
    ∷ bytes "GrpHdr            "
    ∷ bytes "TxInf             "
    ∷ bytes "GrpHdr            "
    ∷ bytes "OrgnlGrpInfAndSts "
    ∷ bytes "TxInfAndSts       "
    ∷ bytes "MsgId             "
    ∷ bytes "CreDtTm           "
    ∷ bytes "InstgAgt          "
    ∷ bytes "InstdAgt          "
    ∷ bytes "PmtId             "
    ∷ bytes "IntrBkSttlmAmt    "
    ∷ bytes "PrvsInstgAgt1     "
    ∷ bytes "DbtrAgt           "
    ∷ bytes "DbtrAcct          "
    ∷ bytes "CdtrAgt           "
    ∷ bytes "CdtrAcct          "
    ∷ bytes "MsgId             "
    ∷ bytes "CreDtTm           "
    ∷ bytes "LqdyTrfId         "
    ∷ bytes "MsgId             "
    ∷ bytes "CreDtTm           "
    ∷ bytes "InstgAgt          "
    ∷ bytes "OrgnlGrpInf       "
    ∷ bytes "OrgnlUETR         "
    ∷ bytes "OrgnlEndToEndId   "
    ∷ bytes "MsgId             "
    ∷ bytes "CreDtTm           "
    ∷ bytes "OrgnlMsgId        "
    ∷ bytes "GrpSts            "
    ∷ bytes "TxSts             "
    ∷ bytes "FinInstnId        "
    ∷ bytes "FinInstnId        "
    ∷ bytes "EndToEndId        "
    ∷ bytes "UETR              "
    ∷ bytes "FinInstnId        "
    ∷ bytes "FinInstnId        "
    ∷ bytes "Id                "
    ∷ bytes "FinInstnId        "
    ∷ bytes "Id                "
    ∷ bytes "UETR              "
    ∷ bytes "TrfdAmt           "
    ∷ bytes "DbtrAcct          "
    ∷ bytes "CdtrAcct          "
    ∷ bytes "FinInstnId        "
    ∷ bytes "OrgnlMsgId        "
    ∷ bytes "OrgnlMsgNmId      "
    ∷ bytes "OrgnlCreDtTm      "
    ∷ bytes "ClrSysMmbId       "
    ∷ bytes "ClrSysMmbId       "
    ∷ bytes "ClrSysMmbId       "
    ∷ bytes "ClrSysMmbId       "
    ∷ bytes "IBAN              "
    ∷ bytes "ClrSysMmbId       "
    ∷ bytes "IBAN              "
    ∷ bytes "Id                "
    ∷ bytes "Id                "
    ∷ bytes "ClrSysMmbId       "
    ∷ bytes "MmbId             "
    ∷ bytes "MmbId             "
    ∷ bytes "MmbId             "
    ∷ bytes "ClrSysId          "
    ∷ bytes "MmbId             "
    ∷ bytes "ClrSysId          "
    ∷ bytes "MmbId             "
    ∷ bytes "Othr              "
    ∷ bytes "Othr              "
    ∷ bytes "MmbId             "
    ∷ bytes "Prtry             "
    ∷ bytes "Prtry             "
    ∷ bytes "Id                "
    ∷ bytes "Id                "
    ∷ []

-- the first node below each node; those below node v end where those below node v + 1 begin
unfoldable pub firsts : List ℕ
firsts =
    2 ∷ 2 ∷ 3 ∷ 7 ∷ 9 ∷ 11 ∷ 13 ∷ 16 ∷ 20 ∷ 27 ∷ 29 ∷ 30 ∷ 33 ∷ 36 ∷ 38 ∷ 40 ∷ 41 ∷ 41 ∷ 41 ∷ 42 ∷ 43 ∷ 45 ∷ 45 ∷ 46 ∷
    47 ∷ 48 ∷ 49 ∷ 50 ∷ 50 ∷ 50 ∷ 54 ∷ 54 ∷ 54 ∷ 55 ∷ 58 ∷ 58 ∷ 58 ∷ 58 ∷ 58 ∷ 58 ∷ 58 ∷ 58 ∷ 59 ∷ 60 ∷ 60 ∷ 60 ∷ 61 ∷
    62 ∷ 63 ∷ 64 ∷ 65 ∷ 65 ∷ 65 ∷ 66 ∷ 67 ∷ 68 ∷ 68 ∷ 68 ∷ 68 ∷ 69 ∷ 70 ∷ 71 ∷ 73 ∷ 73 ∷ 75 ∷ 75 ∷ 76 ∷ 77 ∷ 78 ∷ 78 ∷
    78 ∷ 78 ∷ 79 ∷ 79 ∷ 80 ∷ 80 ∷ 81 ∷ 82 ∷ 82 ∷ 82 ∷ 82 ∷ 82 ∷ 82 ∷ []

-- the bytes before the first blank
abbrev pub before_blank : List ℕ → List ℕ
before_blank [] = []
before_blank (b ∷ s) = cond (eqb b 32) [] (b ∷ before_blank s)

unfoldable pub name_of : ℕ → List ℕ
name_of v = before_blank (get_or names v [])

-- the first of n nodes from v on that has this name
abbrev pub named_from : ℕ → ℕ → List ℕ → ℕ
named_from v zero name = nowhere
named_from v (suc n) name = cond (same_name (name_of v) name) v (named_from (suc v) n name)

-- the node of a name below a node
unfoldable pub child_of : ℕ → List ℕ → ℕ
child_of v name = named_from (get_or firsts v 0) (get_or firsts (suc v) 0 - get_or firsts v 0) name

-- the node of a path, whose names stand innermost first
unfoldable pub node_of : List (List ℕ) → ℕ
node_of [] = above
node_of (name ∷ around) = child_of (node_of around) name

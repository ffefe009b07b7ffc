-- The fields of the four kinds of messages: document 01, "Fields", and request 9 of document 02. A table for each kind, in the document's order;
-- a field's number is its place in the table, counted from 1. Paths are written in full, M as FinInstnId/ClrSysMmbId/MmbId and S as
-- FinInstnId/ClrSysMmbId/ClrSysId/Prtry. That no path stands twice in a kind and none is the front of another is a computed test
-- (`proofs/Tables.antt`).
use Rattle.std.specs.Prelude.{Bool, true, false, cond, List, [], ◌∷◌, ◌++◌, ℕ, eqb}
use Prim.Native.Char.{code}
use Prim.Native.String.{String}
use Rattle.shape.specs.Text.{bytes}
use Rattle.table.specs.declared.Kind.{Kind}
use Rattle.table.specs.declared.Kind.TheVariants.{Pacs008, Camt050, Pacs028, Pacs002}
use Rattle.message.specs.declared.kinds.Shape.{Shape}
use Rattle.message.specs.declared.kinds.Shape.TheVariants.{
  Identifier,
  Time,
  Code,
  System,
  Uetr,
  Amount,
  Iban,
  Account,
  Original,
  GroupStatus,
  TransactionStatus,
}
use Rattle.message.specs.declared.kinds.Ccy.{Ccy}
use Rattle.message.specs.declared.kinds.Ccy.TheVariants.{Absent, Any, Hryvnia}
use Rattle.message.specs.declared.kinds.Numbers.{Numbers}

-- a field: its path of names, innermost first; whether it may be missing; what its text has to be; whether it has a Ccy
pub record Field : Type 0 where
  pub path : List (List ℕ)
  pub optional : Bool
  pub shape : Shape
  pub ccy : Ccy

-- what a table shows at a place that it does not have
abbrev pub no_field : Field
no_field = record { path = []; optional = false; shape = Identifier; ccy = Absent }

-- a path that is written with a slash before each name, as its names
abbrev longer : ℕ → List (List ℕ) → List (List ℕ)
longer b [] = []
longer b (name ∷ around) = (name ++ (b ∷ [])) ∷ around

abbrev pub names_from : List (List ℕ) → List ℕ → List (List ℕ)
names_from names [] = names
names_from names (b ∷ s) = names_from (cond (eqb b (code "/")) ([] ∷ names) (longer b names)) s

abbrev pub path_of : String → List (List ℕ)
path_of text = names_from [] (bytes text)

-- a field of a shape; one that may be missing; an amount, which has a Ccy
abbrev field : Shape → String → Field
field shape text = record { path = path_of text; optional = false; shape = shape; ccy = Absent }

abbrev optional : Shape → String → Field
optional shape text = record { path = path_of text; optional = true; shape = shape; ccy = Absent }

abbrev amount : Ccy → String → Field
amount ccy text = record { path = path_of text; optional = false; shape = Amount; ccy = ccy }

unfoldable pub pacs008_fields : List Field
pacs008_fields =
    field Identifier "/Document/FIToFICstmrCdtTrf/GrpHdr/MsgId"
    ∷ field Time "/Document/FIToFICstmrCdtTrf/GrpHdr/CreDtTm"
    ∷ field Code "/Document/FIToFICstmrCdtTrf/GrpHdr/InstgAgt/FinInstnId/ClrSysMmbId/MmbId"
    ∷ field Code "/Document/FIToFICstmrCdtTrf/GrpHdr/InstdAgt/FinInstnId/ClrSysMmbId/MmbId"
    ∷ field Identifier "/Document/FIToFICstmrCdtTrf/CdtTrfTxInf/PmtId/EndToEndId"
    ∷ field Uetr "/Document/FIToFICstmrCdtTrf/CdtTrfTxInf/PmtId/UETR"
    ∷ amount Hryvnia "/Document/FIToFICstmrCdtTrf/CdtTrfTxInf/IntrBkSttlmAmt"
    ∷ optional Code "/Document/FIToFICstmrCdtTrf/CdtTrfTxInf/PrvsInstgAgt1/FinInstnId/ClrSysMmbId/MmbId"
    ∷ field System "/Document/FIToFICstmrCdtTrf/CdtTrfTxInf/DbtrAgt/FinInstnId/ClrSysMmbId/ClrSysId/Prtry"
    ∷ field Code "/Document/FIToFICstmrCdtTrf/CdtTrfTxInf/DbtrAgt/FinInstnId/ClrSysMmbId/MmbId"
    ∷ field Iban "/Document/FIToFICstmrCdtTrf/CdtTrfTxInf/DbtrAcct/Id/IBAN"
    ∷ field System "/Document/FIToFICstmrCdtTrf/CdtTrfTxInf/CdtrAgt/FinInstnId/ClrSysMmbId/ClrSysId/Prtry"
    ∷ field Code "/Document/FIToFICstmrCdtTrf/CdtTrfTxInf/CdtrAgt/FinInstnId/ClrSysMmbId/MmbId"
    ∷ field Iban "/Document/FIToFICstmrCdtTrf/CdtTrfTxInf/CdtrAcct/Id/IBAN"
    ∷ []

unfoldable pub camt050_fields : List Field
camt050_fields =
    field Identifier "/Document/LqdyCdtTrf/MsgHdr/MsgId"
    ∷ field Time "/Document/LqdyCdtTrf/MsgHdr/CreDtTm"
    ∷ field Uetr "/Document/LqdyCdtTrf/LqdyCdtTrf/LqdyTrfId/UETR"
    ∷ amount Any "/Document/LqdyCdtTrf/LqdyCdtTrf/LqdyTrfId/TrfdAmt"
    ∷ field Account "/Document/LqdyCdtTrf/LqdyCdtTrf/LqdyTrfId/DbtrAcct/Id/Othr/Id"
    ∷ field Account "/Document/LqdyCdtTrf/LqdyCdtTrf/LqdyTrfId/CdtrAcct/Id/Othr/Id"
    ∷ []

unfoldable pub pacs028_fields : List Field
pacs028_fields =
    field Identifier "/Document/FIToFIPmtStsReq/GrpHdr/MsgId"
    ∷ field Time "/Document/FIToFIPmtStsReq/GrpHdr/CreDtTm"
    ∷ field Code "/Document/FIToFIPmtStsReq/GrpHdr/InstgAgt/FinInstnId/ClrSysMmbId/MmbId"
    ∷ field Identifier "/Document/FIToFIPmtStsReq/TxInf/OrgnlGrpInf/OrgnlMsgId"
    ∷ field Original "/Document/FIToFIPmtStsReq/TxInf/OrgnlGrpInf/OrgnlMsgNmId"
    ∷ field Time "/Document/FIToFIPmtStsReq/TxInf/OrgnlGrpInf/OrgnlCreDtTm"
    ∷ field Uetr "/Document/FIToFIPmtStsReq/TxInf/OrgnlUETR"
    ∷ field Identifier "/Document/FIToFIPmtStsReq/TxInf/OrgnlEndToEndId"
    ∷ []

unfoldable pub pacs002_fields : List Field
pacs002_fields =
    field Identifier "/Document/FIToFIPmtStsRpt/GrpHdr/MsgId"
    ∷ field Time "/Document/FIToFIPmtStsRpt/GrpHdr/CreDtTm"
    ∷ field Identifier "/Document/FIToFIPmtStsRpt/OrgnlGrpInfAndSts/OrgnlMsgId"
    ∷ field GroupStatus "/Document/FIToFIPmtStsRpt/OrgnlGrpInfAndSts/GrpSts"
    ∷ optional TransactionStatus "/Document/FIToFIPmtStsRpt/TxInfAndSts/TxSts"
    ∷ []

unfoldable pub fields_of : Kind → List Field
fields_of Pacs008 = pacs008_fields
fields_of Camt050 = camt050_fields
fields_of Pacs028 = pacs028_fields
fields_of Pacs002 = pacs002_fields

-- the path that names the kind
unfoldable pub body_of : Kind → List (List ℕ)
body_of Pacs008 = path_of "/Document/FIToFICstmrCdtTrf"
body_of Camt050 = path_of "/Document/LqdyCdtTrf"
body_of Pacs028 = path_of "/Document/FIToFIPmtStsReq"
body_of Pacs002 = path_of "/Document/FIToFIPmtStsRpt"

-- the most fields that a kind has
abbrev pub fields_most : ℕ
fields_most = 14

-- the numbers of a kind's fields by what they say; 0 for a field that the kind lacks. No part of a message is made of field 11 of pacs.008, the
-- IBAN of DbtrAcct, which only has to have its shape. That each number is that of the field whose path ends so is a computed test
-- (`proofs/Tables.antt`)
abbrev pub pacs008_numbers : Numbers
pacs008_numbers = record {
  id = 1;
  created = 2;
  instructing = 3;
  instructed = 4;
  reference = 5;
  uetr = 6;
  amount = 7;
  previous = 8;
  debtor = record { system = 9; code = 10 };
  creditor = record { system = 12; code = 13 };
  iban = 14;
  debit = 0;
  credit = 0;
  original = 0;
  originated = 0;
  group = 0;
  transaction = 0;
}

abbrev pub camt050_numbers : Numbers
camt050_numbers = record {
  id = 1;
  created = 2;
  instructing = 0;
  instructed = 0;
  reference = 0;
  uetr = 3;
  amount = 4;
  previous = 0;
  debtor = record { system = 0; code = 0 };
  creditor = record { system = 0; code = 0 };
  iban = 0;
  debit = 5;
  credit = 6;
  original = 0;
  originated = 0;
  group = 0;
  transaction = 0;
}

abbrev pub pacs028_numbers : Numbers
pacs028_numbers = record {
  id = 1;
  created = 2;
  instructing = 3;
  instructed = 0;
  reference = 8;
  uetr = 7;
  amount = 0;
  previous = 0;
  debtor = record { system = 0; code = 0 };
  creditor = record { system = 0; code = 0 };
  iban = 0;
  debit = 0;
  credit = 0;
  original = 4;
  originated = 6;
  group = 0;
  transaction = 0;
}

abbrev pub pacs002_numbers : Numbers
pacs002_numbers = record {
  id = 1;
  created = 2;
  instructing = 0;
  instructed = 0;
  reference = 0;
  uetr = 0;
  amount = 0;
  previous = 0;
  debtor = record { system = 0; code = 0 };
  creditor = record { system = 0; code = 0 };
  iban = 0;
  debit = 0;
  credit = 0;
  original = 3;
  originated = 0;
  group = 4;
  transaction = 5;
}

unfoldable pub numbers_of : Kind → Numbers
numbers_of Pacs008 = pacs008_numbers
numbers_of Camt050 = camt050_numbers
numbers_of Pacs028 = pacs028_numbers
numbers_of Pacs002 = pacs002_numbers

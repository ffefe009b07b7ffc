-- The sheets of the cases, written out as bytes: one of each kind of message, with every field of document 01, "Fields", and of request 9 of
-- document 02, in its order. What differs between the cases is put in where it stands: codes, a digit that tells two messages apart, a time, an
-- amount, an IBAN.
use Rattle.std.specs.Prelude.{List, ◌++◌, ℕ}
use Prim.Native.String.{String}
use Rattle.shape.specs.Text.{bytes}

-- a good message identifier of a sender: its code, a date, eight digits, the last of which is given
abbrev pub identifier : String → String → List ℕ
identifier sender digit = bytes sender ++ bytes "202403010000000" ++ bytes digit

-- a UETR, the last digit of which is given
abbrev pub uetr : String → List ℕ
uetr digit = bytes "6f1a2b3c-4d5e-4f60-8a9b-0c1d2e3f405" ++ bytes digit

-- an end-to-end identifier
abbrev pub reference : List ℕ
reference = bytes "INVOICE-7"

-- camt.050: an amount from one account of the sender to the other
abbrev pub liquidity : String → String → String → String → String → String → List ℕ
liquidity debit credit sender digit created amount =
    bytes "<Document><LqdyCdtTrf>"
    ++ bytes "<MsgHdr><MsgId>" ++ identifier sender digit ++ bytes "</MsgId><CreDtTm>" ++ bytes created ++ bytes "</CreDtTm></MsgHdr>"
    ++ bytes "<LqdyCdtTrf><LqdyTrfId>"
    ++ bytes "<UETR>" ++ uetr digit ++ bytes "</UETR>"
    ++ bytes "<TrfdAmt Ccy=\"UAH\">" ++ bytes amount ++ bytes "</TrfdAmt>"
    ++ bytes "<DbtrAcct><Id><Othr><Id>" ++ bytes debit ++ bytes sender ++ bytes "UAH</Id></Othr></Id></DbtrAcct>"
    ++ bytes "<CdtrAcct><Id><Othr><Id>" ++ bytes credit ++ bytes sender ++ bytes "UAH</Id></Othr></Id></CdtrAcct>"
    ++ bytes "</LqdyTrfId></LqdyCdtTrf></LqdyCdtTrf></Document>"

-- from account 1 to account 2
abbrev pub camt050 : String → String → String → String → List ℕ
camt050 = liquidity "1" "2"

-- pacs.008: 50.00 from a customer of 300001 to the IBAN of a customer of a receiving bank
abbrev pub payment : String → String → String → String → List ℕ
payment receiver digit created iban =
    bytes "<Document><FIToFICstmrCdtTrf>"
    ++ bytes "<GrpHdr><MsgId>" ++ identifier "300001" digit ++ bytes "</MsgId><CreDtTm>" ++ bytes created ++ bytes "</CreDtTm>"
    ++ bytes "<InstgAgt><FinInstnId><ClrSysMmbId><MmbId>300001</MmbId></ClrSysMmbId></FinInstnId></InstgAgt>"
    ++ bytes "<InstdAgt><FinInstnId><ClrSysMmbId><MmbId>" ++ bytes receiver ++ bytes "</MmbId></ClrSysMmbId></FinInstnId></InstdAgt></GrpHdr>"
    ++ bytes "<CdtTrfTxInf><PmtId><EndToEndId>" ++ reference ++ bytes "</EndToEndId><UETR>" ++ uetr digit ++ bytes "</UETR></PmtId>"
    ++ bytes "<IntrBkSttlmAmt Ccy=\"UAH\">50.00</IntrBkSttlmAmt>"
    ++ bytes "<PrvsInstgAgt1><FinInstnId><ClrSysMmbId><MmbId>300011</MmbId></ClrSysMmbId></FinInstnId></PrvsInstgAgt1>"
    ++ bytes "<DbtrAgt><FinInstnId><ClrSysMmbId><ClrSysId><Prtry>SEP</Prtry></ClrSysId><MmbId>300001</MmbId></ClrSysMmbId></FinInstnId></DbtrAgt>"
    ++ bytes "<DbtrAcct><Id><IBAN>UA213223130000026007233566001</IBAN></Id></DbtrAcct>"
    ++ bytes "<CdtrAgt><FinInstnId><ClrSysMmbId><ClrSysId><Prtry>SEP</Prtry></ClrSysId><MmbId>" ++ bytes receiver
    ++ bytes "</MmbId></ClrSysMmbId></FinInstnId></CdtrAgt>"
    ++ bytes "<CdtrAcct><Id><IBAN>" ++ bytes iban ++ bytes "</IBAN></Id></CdtrAcct>"
    ++ bytes "</CdtTrfTxInf></FIToFICstmrCdtTrf></Document>"

-- to a customer of 300002
abbrev pub pacs008 : String → String → String → List ℕ
pacs008 = payment "300002"

-- pacs.028: what became of the pacs.008 with another digit, which was created at this time
abbrev pub pacs028 : String → String → String → List ℕ
pacs028 digit created original =
    bytes "<Document><FIToFIPmtStsReq>"
    ++ bytes "<GrpHdr><MsgId>" ++ identifier "300001" digit ++ bytes "</MsgId><CreDtTm>" ++ bytes created ++ bytes "</CreDtTm>"
    ++ bytes "<InstgAgt><FinInstnId><ClrSysMmbId><MmbId>300001</MmbId></ClrSysMmbId></FinInstnId></InstgAgt></GrpHdr>"
    ++ bytes "<TxInf><OrgnlGrpInf><OrgnlMsgId>" ++ identifier "300001" original ++ bytes "</OrgnlMsgId>"
    ++ bytes "<OrgnlMsgNmId>pacs.008.001.08</OrgnlMsgNmId><OrgnlCreDtTm>" ++ bytes created ++ bytes "</OrgnlCreDtTm></OrgnlGrpInf>"
    ++ bytes "<OrgnlUETR>" ++ uetr original ++ bytes "</OrgnlUETR><OrgnlEndToEndId>" ++ reference ++ bytes "</OrgnlEndToEndId>"
    ++ bytes "</TxInf></FIToFIPmtStsReq></Document>"

-- pacs.002: what a bank answers to the pacs.008 of 300001 with another digit: GrpSts, and what stands after it
abbrev pub pacs002 : String → String → String → String → String → String → List ℕ
pacs002 sender digit created original group later =
    bytes "<Document><FIToFIPmtStsRpt>"
    ++ bytes "<GrpHdr><MsgId>" ++ identifier sender digit ++ bytes "</MsgId><CreDtTm>" ++ bytes created ++ bytes "</CreDtTm></GrpHdr>"
    ++ bytes "<OrgnlGrpInfAndSts><OrgnlMsgId>" ++ identifier "300001" original ++ bytes "</OrgnlMsgId>"
    ++ bytes "<GrpSts>" ++ bytes group ++ bytes "</GrpSts></OrgnlGrpInfAndSts>"
    ++ bytes later ++ bytes "</FIToFIPmtStsRpt></Document>"

-- TxSts
abbrev pub refusing : String
refusing = "<TxInfAndSts><TxSts>RJCT</TxSts></TxInfAndSts>"

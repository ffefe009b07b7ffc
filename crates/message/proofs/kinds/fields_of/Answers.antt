-- The constants are the tables: the nodes of their paths are computed.
use Rattle.outline.specs.Paths.{same_name}
use Rattle.paths.specs.Tree.{names, firsts, name_of, child_of, node_of}
use Rattle.message.specs.Fields.{pacs008_fields, camt050_fields, pacs028_fields, pacs002_fields, fields_of}
use Rattle.message.specs.Seen.{entry_of}
use Rattle.message.proofs.kinds.fields_of.Goals as goal

pub returns-in-Pacs008 : goal.returns-in-Pacs008
unfolding fields_of entry_of pacs008_fields node_of child_of name_of names firsts same_name
returns-in-Pacs008 c = rw c.in-Pacs008.is

pub returns-in-Camt050 : goal.returns-in-Camt050
unfolding fields_of entry_of camt050_fields node_of child_of name_of names firsts same_name
returns-in-Camt050 c = rw c.in-Camt050.is

pub returns-in-Pacs028 : goal.returns-in-Pacs028
unfolding fields_of entry_of pacs028_fields node_of child_of name_of names firsts same_name
returns-in-Pacs028 c = rw c.in-Pacs028.is

pub returns-in-Pacs002 : goal.returns-in-Pacs002
unfolding fields_of entry_of pacs002_fields node_of child_of name_of names firsts same_name
returns-in-Pacs002 c = rw c.in-Pacs002.is

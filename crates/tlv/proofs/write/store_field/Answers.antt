-- `tlv::write::store_field` meets its contract: type, length and value, one behind the other.
use borrow.Author.Rules.{rules}
use Rattle.tlv.proofs.Writing.{field_stored}
use Rattle.tlv.proofs.write.store_field.Goals as goal

pub returns : goal.returns
returns c =
    let write-be2 = c.write_be-2 in
    let copy = c.copy in
    let first = c in
    let given = first in
    field_stored _ _ _ _ _ _ _ _ _ _ first.tag_len-tag_len.ensures.0 first.length_len-length_len.ensures.0
    (search rules) given.requires.0 given.requires.1 first.write_be.ensures write-be2.ensures copy.ensures

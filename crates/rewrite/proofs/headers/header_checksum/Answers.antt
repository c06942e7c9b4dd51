use Rattle.std.proofs.Common.{◌+◌, ◌≤◌, ◌∙◌, ap, arith, drop}
use Rattle.byteorder.specs.Endian.{big_number}
use Rattle.sums.specs.Sum.{word_sum, IsUpdate}
use Rattle.ipv4.specs.Header.{word_at}
use Rattle.rewrite.specs.Sums.{address_sum}
use Rattle.rewrite.specs.Translated.{header_unsummed}
use Rattle.rewrite.proofs.Moved.{InRange, update-of, hop-counted, header_sum-moved, checksum-update, hops-word, old_words, new_words}
use Rattle.rewrite.proofs.headers.header_checksum.Goals as goal

pub returns : goal.returns
returns c =
    let header = c.args.header.now.bytes.now in
    let new = c.args.new in
    let fits : InRange new = record { source = omega arith; destination = omega arith; source_port = omega arith; destination_port = omega arith } in
    let from = address_sum (big_number 4 (drop 12 header)) in
    let to = address_sum (big_number 4 (drop 16 header)) in
    let hop : 256 ≤ word_at 8 header = omega (arith, hops-word header, c.requires.ttl) in
    let written : IsUpdate (word_at 10 header) (from + to + 256) (address_sum new.source.0 + address_sum new.destination.0) c.update_words.result = update-of (word_at 10 header) from to (address_sum new.source.0) (address_sum new.destination.0) c.checksum.result c.address_words.result c.address_words-2.result c.address_words-3.result c.address_words-4.result c.update_words.result c.checksum.ensures (c.address_words.ensures.value ∙ ap address_sum c.source.ensures) (c.address_words-2.ensures.value ∙ ap address_sum c.destination.ensures) c.address_words-3.ensures.value c.address_words-4.ensures.value c.update_words.ensures in
    let all : IsUpdate (word_at 10 header) (old_words header) (new_words new header) c.update_words.result = hop-counted (word_at 10 header) (word_at 8 header) from to (address_sum new.source.0) (address_sum new.destination.0) c.update_words.result hop written in
    let moved = header_sum-moved new header fits c.requires.octets c.args.header.now.long c.requires.version c.requires.ttl in
    checksum-update _ _ _ (word_sum (header_unsummed new header)) (word_sum header) _ moved.0 moved.1 c.requires.right.0 all

-- What closes the needs of this crate's functions: `search ways`.
use borrow.Author.Rules.{rules}
use Rattle.transaction_writer.proofs.PutLaws.{put_headers, put_fields}
use Rattle.transaction_writer.proofs.RewriteLaws.{rewrote}

pub ruleset ways = (rules, put_headers, put_fields, rewrote)

-- The lemmas that proofs of other crates may cite.

-- Whether options have a source route, by the first of them; and of a header without options.
pub use Rattle.ipv4.proofs.Routes.{route-none, route-first, route-ends, route-goes, route-short}

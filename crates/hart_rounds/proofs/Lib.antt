pub mod FewAccesses
pub mod HartRounds
pub mod RoundAt
pub mod AtRest

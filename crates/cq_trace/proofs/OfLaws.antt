-- What the law of agreement rests on.
pub mod ActionLists
pub mod Casts
pub mod LinkLaws
pub mod NextActions
pub mod Moments
pub mod GivenAnswers
pub mod Agreeing

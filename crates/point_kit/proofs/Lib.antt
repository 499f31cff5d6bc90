pub mod JoinLaws
pub mod BestLaws
pub mod EqualityLaws
pub mod StateLaws
pub mod ChangeLaws
pub mod OrderLaws
pub mod Sound
pub mod PointLaws

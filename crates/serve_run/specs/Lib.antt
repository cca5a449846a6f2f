pub mod Lines
pub mod Met
pub mod Visits
pub mod Served
pub mod Told
pub mod Drove
pub mod Headline
